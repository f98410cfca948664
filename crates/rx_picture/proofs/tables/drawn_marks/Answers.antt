use Rattle.rx_picture.proofs.Common.{at, is_drawn}
use Rattle.rx_picture.proofs.FewAreChosen.{marks_more}
use Rattle.rx_picture.proofs.tables.drawn_marks.Goals as goal

pub loop-n-preserved : goal.loop-n-preserved
loop-n-preserved c =
    rw c.in_ok-push.ensures.items
    (marks_more c.loop-n.marks.items c.loop-n.n (at is_drawn c.args.events.now) c.is_drawn_at-mark.result
    c.loop-n.invariant c.is_drawn_at-mark.ensures)
