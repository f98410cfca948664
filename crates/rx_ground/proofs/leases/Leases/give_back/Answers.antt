use Rattle.rx_ground.proofs.LeasesStayInOrder.{order_left}
use Rattle.rx_ground.proofs.leases.Leases.give_back.Goals as goal

pub invariant_of-self-2 : goal.invariant_of-self-2
invariant_of-self-2 c = order_left _ _ c.self.invariant _ _ _ c.in_ok-res.ensures.changes (c.leave.ensures.lists 0) c.leave.ensures.length
    c.leave.ensures.members
