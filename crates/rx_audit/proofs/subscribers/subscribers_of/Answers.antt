use Rattle.rx_audit.proofs.Common.{length}
use Rattle.rx_audit.proofs.SubscriberRows.{walk_starts, walk_first, walk_less, walk_next, walk_more}
use Rattle.rx_audit.proofs.subscribers.subscribers_of.Goals as goal
use Rattle.std.proofs.Common.{rules}

pub loop-next-init : goal.loop-next-init
loop-next-init c = search (rules, walk_starts, length, walk_first)

pub loop-next-smaller : goal.loop-next-smaller
loop-next-smaller c = let subs = c.args.subs.now in walk_less _ (length subs.listed.items) subs _ c.requires.linked _ _ c.loop-next-test.true
    c.loop-next.invariant.here c.value_at-next-in-loop-next.ensures

pub loop-next-preserved : goal.loop-next-preserved
loop-next-preserved c = let h = c.args.past.now in let subs = c.args.subs.now in record {
  rest = λ number. walk_more h (length subs.listed.items) subs
      _ c.requires.linked _ _ c.loop-next-test.true c.loop-next.invariant.here c.value_at-next-in-loop-next.ensures c.in_ok-push.ensures.items number
      (c.loop-next.invariant.rest number);
  here = walk_next h (length subs.listed.items) subs _ c.requires.linked _ _ c.loop-next-test.true
      c.loop-next.invariant.here c.value_at-next-in-loop-next.ensures;
}
