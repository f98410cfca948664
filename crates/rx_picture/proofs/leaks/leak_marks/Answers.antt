use Rattle.rx_picture.proofs.Common.{leaks}
use Rattle.rx_picture.proofs.FewAreChosen.{marks_more}
use Rattle.rx_picture.proofs.leaks.leak_marks.Goals as goal

pub loop-n-preserved : goal.loop-n-preserved
loop-n-preserved c =
    rw c.in_ok-push.ensures.items
    (marks_more c.loop-n.marks.items c.loop-n.n
    (leaks c.args.events.now) c.is_leak-mark.result c.loop-n.invariant c.is_leak-mark.ensures)
