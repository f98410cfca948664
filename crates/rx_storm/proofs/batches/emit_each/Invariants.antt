-- The numbers below the next one are emitted, and counted.
use Rattle.rx_storm.proofs.Common.{◌≡◌, ◌≤◌, ◌+◌, ◌-◌, ◌++◌, items_at, events_of}
use Rattle.rx_storm.proofs.batches.emit_each.Given as goal

abbrev pub invariant-loop-next : goal.invariant-loop-next
invariant-loop-next g l = record {
  within : l.next ≤ l.items;
  emitted : events_of l.receipts.items ≡ events_of l.initial.receipts.items ++ items_at l.leaf.number 0 l.next;
  counted : l.seat ≡ record l.initial.seat { items = l.initial.seat.items + l.next };
}

abbrev pub decreases-loop-next : goal.decreases-loop-next
decreases-loop-next g l = l.items - l.next
