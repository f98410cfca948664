use Rattle.rx_audit.proofs.Common.{◌≡◌, at, list_any, ancestors}
use Rattle.rx_event.specs.Causes.{connects_up_to}
use Rattle.rx_audit.proofs.allowed.is_below_connection.Given as goal

abbrev pub invariant-loop-g : goal.invariant-loop-g
invariant-loop-g l = list_any (at (connects_up_to l.g) l.past) (ancestors l.past l.p) ≡ list_any (at (connects_up_to l.g) l.past) (ancestors l.past l.a)

abbrev pub decreases-loop-g : goal.decreases-loop-g
decreases-loop-g l = l.a
