use Rattle.std.proofs.Common.{◌≤◌, ◌-◌, vec_len}
use Rattle.rx_scarce.specs.declared.TheConstants.{MOST_BLOCKS}
use Rattle.rx_scarce.proofs.take_all.Given as goal

abbrev pub invariant-loop-alloc : goal.invariant-loop-alloc
invariant-loop-alloc l = vec_len l.blocks ≤ MOST_BLOCKS

abbrev pub decreases-loop-alloc : goal.decreases-loop-alloc
decreases-loop-alloc l = MOST_BLOCKS - vec_len l.blocks
