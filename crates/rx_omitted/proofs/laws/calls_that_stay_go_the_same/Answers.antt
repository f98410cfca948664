use Rattle.rx_omitted.proofs.Stepped.{runs_what_stays}
use Rattle.rx_omitted.proofs.laws.calls_that_stay_go_the_same.Goals as goal

pub returns : goal.returns
returns c = runs_what_stays
