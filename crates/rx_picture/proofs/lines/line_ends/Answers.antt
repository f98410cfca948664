use Rattle.rx_picture.proofs.WhereLinesEnd.{lines_more}
use Rattle.rx_picture.proofs.lines.line_ends.Goals as goal

pub loop-n-preserved : goal.loop-n-preserved
loop-n-preserved c =
    let end = c.line_end-end.ensures in
    rw c.in_ok-push.ensures.items
    (lines_more c.args.events.now c.loop-n.n c.loop-n.ends.items c.line_end-end.result c.loop-n.invariant
    end.begun end.within end.spans)
