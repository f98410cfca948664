use Rattle.rx_audit.proofs.Common.{length}
use Rattle.rx_audit.proofs.DueLists.{keeps_more, keeps_on, noted_starts, noted_down}
use Rattle.rx_audit.proofs.SubscriberRows.{walk_first, walk_less, walk_next}
use Rattle.rx_audit.proofs.duties.note_subscribers.Goals as goal
use Rattle.std.proofs.Common.{rules}

pub loop-next-init : goal.loop-next-init
loop-next-init c = search (rules, noted_starts, length, walk_first)

pub loop-next-smaller : goal.loop-next-smaller
loop-next-smaller c = let subs = c.args.subs.now in walk_less _ (length subs.listed.items) subs _ c.requires _ _ c.loop-next-test.true
    c.loop-next.invariant.here c.value_at-next-in-loop-next.ensures

pub loop-next-preserved : goal.loop-next-preserved
loop-next-preserved c = let h = c.args.past.now in let subs = c.args.subs.now in record {
  keeps = rw c.in_ok-push.ensures.items (keeps_on _ _ _ c.loop-next.invariant.keeps (keeps_more _ _));
  all = rw c.in_ok-push.ensures.items (noted_down h (length subs.listed.items) subs _ c.requires _
      c.loop-next-test.true c.loop-next.invariant.here c.value_at-next-in-loop-next.ensures c.loop-next.invariant.all);
  here = walk_next h (length subs.listed.items) subs _ c.requires _ _ c.loop-next-test.true c.loop-next.invariant.here c.value_at-next-in-loop-next.ensures;
}
