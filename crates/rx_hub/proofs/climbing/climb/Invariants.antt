use Rattle.std.proofs.Common.{◌-◌}
use Rattle.rx_hub.proofs.WayWalkedSoFar.{IsClimbing}
use Rattle.rx_hub.proofs.climbing.climb.Given as goal

abbrev pub invariant-loop-stop : goal.invariant-loop-stop
invariant-loop-stop g l = IsClimbing l.fn.tree.nodes l.fn.node l.read.node l.stop l.visits

abbrev pub decreases-loop-stop : goal.decreases-loop-stop
decreases-loop-stop g l = 1048577 - l.visits
