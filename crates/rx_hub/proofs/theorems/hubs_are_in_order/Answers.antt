use Rattle.rx_hub.proofs.Laws.AfterOrder.{subscribers_earlier}
use Rattle.rx_hub.proofs.Laws.Orders.{IsOrdered-walk}
use Rattle.rx_hub.proofs.theorems.hubs_are_in_order.Goals as goal

pub returns : goal.returns
returns c base = record { earlier = subscribers_earlier; ordered = IsOrdered-walk base }
