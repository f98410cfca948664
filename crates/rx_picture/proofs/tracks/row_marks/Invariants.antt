use Rattle.rx_picture.proofs.Common.{AreMarksByTest, marked, is_rowed_by}
use Rattle.rx_picture.proofs.tracks.row_marks.Given as goal

abbrev pub invariant-loop-n : goal.invariant-loop-n
invariant-loop-n l = AreMarksByTest l.marks.items l.n (is_rowed_by (marked l.shown) l.events)
