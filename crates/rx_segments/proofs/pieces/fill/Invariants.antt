use Rattle.std.proofs.Common.{◌-◌, ◌≤◌, All, vec_len}
use Rattle.rx_segments.specs.Kept.{IsEmptyPiece}
use Rattle.rx_segments.proofs.pieces.fill.Given as goal

abbrev pub invariant-loop-alloc : goal.invariant-loop-alloc
invariant-loop-alloc g l =
    (All IsEmptyPiece l.spare.items) × (vec_len l.initial.spare ≤ vec_len l.spare) × (vec_len l.spare ≤ l.count)

abbrev pub decreases-loop-alloc : goal.decreases-loop-alloc
decreases-loop-alloc g l = l.count - vec_len l.spare
