-- The numbers below the one at hand are emitted, and counted.
use Rattle.rx_storm.proofs.Common.{◌≡◌, ◌+◌, ◌-◌, ◌++◌, items_at, events_of}
use Rattle.rx_storm.proofs.batches.emit_some.Given as goal

abbrev pub invariant-loop-number : goal.invariant-loop-number
invariant-loop-number g l = record {
  emitted : events_of l.receipts.items ≡ events_of l.initial.receipts.items ++ items_at l.leaf.number l.first (l.number - l.first);
  counted : l.seat ≡ record l.initial.seat { items = l.initial.seat.items + (l.number - l.first) };
}
