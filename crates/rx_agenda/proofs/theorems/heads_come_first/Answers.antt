use Rattle.rx_agenda.proofs.OneOrder.{heads_first}
use Rattle.rx_agenda.proofs.theorems.heads_come_first.Goals as goal

pub returns : goal.returns
returns c = heads_first
