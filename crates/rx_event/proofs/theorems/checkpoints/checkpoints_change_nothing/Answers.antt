use Rattle.rx_event.proofs.Laws.Checkpoints.{checkpoints_agree}
use Rattle.rx_event.proofs.theorems.checkpoints.checkpoints_change_nothing.Goals as goal

pub returns : goal.returns
returns c = checkpoints_agree
