use Rattle.rx_lanes.proofs.QueuesShown.{no_cells}
use Rattle.rx_lanes.proofs.queues.Queues.new.Goals as goal

pub invariant_of-result : goal.invariant_of-result
invariant_of-result g c = no_cells c.new-2.ensures.items c.new-3.ensures.items
