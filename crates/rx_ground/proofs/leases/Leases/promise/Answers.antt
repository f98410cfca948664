use Rattle.rx_ground.proofs.LeasesStayInOrder.{order_apart}
use Rattle.rx_ground.proofs.leases.Leases.promise.Goals as goal

pub returns : goal.returns
returns c = rw (← c.self.view_is) (order_apart c.self.inside.out c.self.inside.order c.self.invariant)
