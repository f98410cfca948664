use Rattle.rx_agenda.proofs.RunsInOrder.{runs_in_order}
use Rattle.rx_agenda.proofs.theorems.runs_are_in_order.Goals as goal

pub returns : goal.returns
returns c = runs_in_order
