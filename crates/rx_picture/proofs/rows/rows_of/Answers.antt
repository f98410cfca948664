use Rattle.rx_picture.proofs.Common.{marked}
use Rattle.rx_picture.proofs.RowsOfFirstPlaces.{rows_more, rows_skip}
use Rattle.rx_picture.proofs.rows.rows_of.Goals.{in-Some+in_ok-push, in_default}
use Rattle.rx_picture.proofs.rows.rows_of.Goals as goal

pub loop-n-preserved : goal.loop-n-preserved
loop-n-preserved c = elim c.match-row_at.branch [
  | in-Some+in_ok-push w ↦
      rw (w.rows-is, w.in_ok-push.ensures.items)
      (rows_more c.args.events.now (marked c.args.shown.now) c.loop-n.n c.loop-n.rows.items w.in-Some.row c.loop-n.invariant w.in-Some.ensures)
  | in_default w ↦
      rw w.rows-is (rows_skip c.args.events.now (marked c.args.shown.now) c.loop-n.n c.loop-n.rows.items c.loop-n.invariant w.in_default.ensures)
]
