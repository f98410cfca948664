use Rattle.rx_picture.proofs.Common.{is_left_behind, AreMarksByTest}
use Rattle.rx_picture.proofs.tables.left_marks.Given as goal

abbrev pub invariant-loop-n : goal.invariant-loop-n
invariant-loop-n l = AreMarksByTest l.marks.items l.n (is_left_behind l.events)
