use Rattle.std.proofs.Common.{◌<◌, vec_len}
use Rattle.rx_scarce.specs.declared.TheConstants.{MOST_BLOCKS}
use Rattle.rx_scarce.proofs.Scarce.new.Given as goal

abbrev pub invariant-loop-power : goal.invariant-loop-power
invariant-loop-power l = vec_len l.blocks < MOST_BLOCKS

abbrev pub invariant-loop-units : goal.invariant-loop-units
invariant-loop-units l = vec_len l.blocks < MOST_BLOCKS
