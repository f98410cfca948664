use Rattle.rx_picture.proofs.Common.{leaks, AreMarksByTest}
use Rattle.rx_picture.proofs.leaks.leak_marks.Given as goal

abbrev pub invariant-loop-n : goal.invariant-loop-n
invariant-loop-n l = AreMarksByTest l.marks.items l.n (leaks l.events)
