use Rattle.rx_slots.proofs.Common.{◌≡◌, ◌≤◌, ◌+◌, ◌-◌, ◌++◌, max, length, replicate, vec_capacity, None}
use Rattle.rx_slots.proofs.growing.fill.Given as goal

-- so many cells of nothing were added
abbrev pub invariant-loop-cells : goal.invariant-loop-cells
invariant-loop-cells g l =
    (l.cells.items ≡ l.initial.cells.items ++ replicate (length l.cells.items - length l.initial.cells.items) None) ×
    (length l.initial.cells.items ≤ length l.cells.items) ×
    (length l.cells.items ≤ max (length l.initial.cells.items) (l.slot + 1)) ×
    (l.slot ≡ l.initial.slot) ×
    (vec_capacity l.cells ≡ vec_capacity l.initial.cells)

abbrev pub decreases-loop-cells : goal.decreases-loop-cells
decreases-loop-cells g l = l.slot + 1 - length l.cells.items
