use Rattle.rx_picture.proofs.Common.{is_left_behind}
use Rattle.rx_picture.proofs.FewAreChosen.{marks_more}
use Rattle.rx_picture.proofs.tables.left_marks.Goals as goal

pub loop-n-preserved : goal.loop-n-preserved
loop-n-preserved c =
    rw c.in_ok-push.ensures.items
    (marks_more c.loop-n.marks.items c.loop-n.n
    (is_left_behind c.args.events.now) c.is_left_behind-mark.result c.loop-n.invariant c.is_left_behind-mark.ensures)
