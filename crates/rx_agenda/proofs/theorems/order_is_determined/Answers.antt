use Rattle.rx_agenda.proofs.OneOrder.{determined}
use Rattle.rx_agenda.proofs.theorems.order_is_determined.Goals as goal

pub returns : goal.returns
returns c = determined
