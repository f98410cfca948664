use Rattle.std.proofs.Common.{arith}
use Rattle.rx_segments.proofs.KeptSteps.{length_items}
use Rattle.rx_segments.proofs.pieces.widen.Goals as goal

pub add_pieces-requires-clause-within : goal.add_pieces-requires-clause-within
add_pieces-requires-clause-within g c =
    rw c.widen_last.ensures.items
    (omega (arith, length_items c.args.full.now c.args.last.now c.args.spare.now c.requires.kept, c.len.ensures, c.len-2.ensures, c.saturating_sub.ensures))
