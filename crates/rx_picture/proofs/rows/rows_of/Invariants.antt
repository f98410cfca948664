use Rattle.rx_picture.proofs.Common.{marked}
use Rattle.rx_picture.proofs.RowsOfFirstPlaces.{RowsUpTo}
use Rattle.rx_picture.proofs.rows.rows_of.Given as goal

abbrev pub invariant-loop-n : goal.invariant-loop-n
invariant-loop-n l = RowsUpTo l.events (marked l.shown) l.n l.rows.items
