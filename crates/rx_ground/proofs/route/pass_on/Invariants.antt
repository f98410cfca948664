use Rattle.rx_ground.proofs.Common.{length, stops_left}
use Rattle.rx_ground.proofs.Passage.{IsGoing}
use Rattle.rx_ground.proofs.route.pass_on.Given as goal

abbrev pub invariant-loop-stop : goal.invariant-loop-stop
invariant-loop-stop g l = IsGoing l.fn.register l.fn.tree l.fn.hubs.hubs l.fn.route.room l.fn.leaf.number l.fn.value l.register l.tree l.route

abbrev pub decreases-loop-stop : goal.decreases-loop-stop
decreases-loop-stop g l = length (stops_left l.tree.nodes l.fn.hubs.hubs l.route)
