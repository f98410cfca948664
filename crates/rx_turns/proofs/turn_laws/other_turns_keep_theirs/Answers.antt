use Rattle.rx_turns.proofs.Others.{leaves_others_alone}
use Rattle.rx_turns.proofs.turn_laws.other_turns_keep_theirs.Goals as goal

pub returns : goal.returns
returns c = leaves_others_alone
