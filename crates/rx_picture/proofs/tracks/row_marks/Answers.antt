use Rattle.rx_picture.proofs.Common.{marked, is_rowed_by}
use Rattle.rx_picture.proofs.FewAreChosen.{marks_more}
use Rattle.rx_picture.proofs.tracks.row_marks.Goals as goal

pub loop-n-preserved : goal.loop-n-preserved
loop-n-preserved c =
    rw c.in_ok-push.ensures.items
    (marks_more c.loop-n.marks.items c.loop-n.n (is_rowed_by (marked c.args.shown.now) c.args.events.now) c.is_track_marked-mark.result c.loop-n.invariant
    c.is_track_marked-mark.ensures)
