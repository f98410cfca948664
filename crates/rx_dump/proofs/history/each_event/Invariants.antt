-- The events that were read, before those that are left.
use Rattle.rx_dump.proofs.Common.{◌≡◌, drop, items_view, each_event}
use Rattle.rx_dump.proofs.Histories.{with_past}
use Rattle.rx_dump.proofs.history.each_event.Given as goal

abbrev pub invariant-loop-value : goal.invariant-loop-value
invariant-loop-value l = each_event (items_view l.values.items) ≡ with_past l.history.items (each_event (items_view (drop l.value-index l.values.items)))
