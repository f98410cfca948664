use Rattle.rx_omitted.proofs.Same.{same_what_stays}
use Rattle.rx_omitted.proofs.laws.omitting_changes_nothing_else.Goals as goal

pub returns : goal.returns
returns c = same_what_stays
