use Rattle.std.proofs.Common.{◌≡◌, length, vec_capacity}
use Rattle.rx_lanes.specs.Chains.{Frees}
use Rattle.rx_lanes.proofs.queues.free_cells.Given as goal

abbrev pub invariant-loop-cell : goal.invariant-loop-cell
invariant-loop-cell l = record {
  frees : Frees l.initial.next.items l.next.items l.free l.last;
  so_far : length l.next.items ≡ l.cell;
  capacity : vec_capacity l.next ≡ vec_capacity l.initial.next;
}
