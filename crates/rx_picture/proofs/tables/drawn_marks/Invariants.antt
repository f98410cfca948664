use Rattle.rx_picture.proofs.Common.{at, is_drawn, AreMarksByTest}
use Rattle.rx_picture.proofs.tables.drawn_marks.Given as goal

abbrev pub invariant-loop-n : goal.invariant-loop-n
invariant-loop-n l = AreMarksByTest l.marks.items l.n (at is_drawn l.events)
