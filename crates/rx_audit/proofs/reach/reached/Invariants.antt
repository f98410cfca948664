use Rattle.rx_audit.proofs.LogCountsVisits.{IsFlowing}
use Rattle.rx_audit.proofs.reach.reached.Given as goal

abbrev pub invariant-loop-i : goal.invariant-loop-i
invariant-loop-i l = IsFlowing l.past l.leaf l.i l.climb.log.items l.total
