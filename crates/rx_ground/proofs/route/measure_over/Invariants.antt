use Rattle.rx_ground.proofs.Common.{length, stops_left}
use Rattle.rx_ground.proofs.CountsOnTheWay.{IsMeasuring}
use Rattle.rx_ground.proofs.route.measure_over.Given as goal

abbrev pub invariant-loop-stop : goal.invariant-loop-stop
invariant-loop-stop g l = IsMeasuring l.fn.tree.nodes l.fn.hubs.hubs l.fn.node l.fn.route.room l.route l.events l.notes l.is_first l.only

abbrev pub decreases-loop-stop : goal.decreases-loop-stop
decreases-loop-stop g l = length (stops_left l.fn.tree.nodes l.fn.hubs.hubs l.route)
