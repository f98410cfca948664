use Rattle.std.specs.Prelude.{◌≡◌}
use Rattle.rx_ledger.specs.Shares.{together, plus}
use Rattle.rx_ledger.proofs.seat.Seat.gather.Given as goal

abbrev pub invariant-loop-seat : goal.invariant-loop-seat
invariant-loop-seat g l = l.all ≡ plus l.initial.all (together l.yielded)
