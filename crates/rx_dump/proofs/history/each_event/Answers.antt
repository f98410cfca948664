use Rattle.rx_dump.proofs.Common.{◌∙◌}
use Rattle.std.proofs.lemmas.List.{drop_more}
use Rattle.rx_dump.proofs.Histories.{one_past}
use Rattle.rx_dump.proofs.history.each_event.Goals as goal

pub loop-value-preserved : goal.loop-value-preserved
loop-value-preserved c =
    let same = c.deref-value-items.ensures.value in
    let next = drop_more c.args.values.now.items c.loop-value.value-index c.value-item.result (rw same at c.loop-value-test.true) in
    let at_i = rw same at c.value-item.is in
    rw c.in_ok-push.ensures.items (c.loop-value.invariant ∙ rw (next, ← at_i, ← c.in-Some.ensures) (one_past _ c.in-Some.event _))
