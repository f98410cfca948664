-- The entries stay, in their order.
use Rattle.std.proofs.Common.{◌≡◌, length}
use Rattle.std.specs.List.{AllPairs}
use Rattle.rx_time.specs.Runs.{slot_entries, IsBefore}
use Rattle.rx_time.proofs.run.pass_empty.Given as goal

abbrev pub invariant-loop-slots : goal.invariant-loop-slots
invariant-loop-slots g l = record {
  entries : slot_entries l.slots.items ≡ slot_entries l.initial.slots.items;
  in_order : AllPairs IsBefore l.slots.items;
}

abbrev pub decreases-loop-slots : goal.decreases-loop-slots
decreases-loop-slots g l = length l.slots.items
