use Rattle.std.specs.Prelude.{◌≡◌, ◌+◌, ◌≤◌}
use Rattle.rx_crew.proofs.working.worker.Given as goal

abbrev pub invariant-loop-released : goal.invariant-loop-released
invariant-loop-released g l = (l.seat ≡ record l.initial.seat { taken = l.initial.seat.taken + l.released }) × (l.faults ≤ l.released)
