use Rattle.rx_picture.proofs.Common.{AreLines}
use Rattle.rx_picture.proofs.lines.line_ends.Given as goal

abbrev pub invariant-loop-n : goal.invariant-loop-n
invariant-loop-n l = AreLines l.events l.n l.ends.items
