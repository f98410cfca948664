use Rattle.rx_audit.proofs.Common.{length, arith, Root, Leaf, Event, Open}
use Rattle.rx_event.proofs.Laws.Begin.{IsLawful_nothing}
use Rattle.rx_audit.proofs.TestsToVerdict.{unlawful_here, lawful_more, found_more, followed_more, found_from, known_from, all_found}
use Rattle.std.proofs.lemmas.List.{length-take-le}
use Rattle.rx_audit.proofs.verdict.first_unlawful.Goals as goal

any_event : Event
any_event = Open Root Leaf

pub loop-i-init : goal.loop-i-init
loop-i-init c = record {
  lawful = IsLawful_nothing;
  found = c.requires.found;
  followed = c.requires.followed;
}

pub settle-settled-requires : goal.settle-settled-requires
settle-settled-requires c = rw c.as_slice.ensures.value
    (known_from _ _ _ _ c.loop-i.invariant.lawful c.loop-i.invariant.found c.loop-i.invariant.followed)

pub returns-then-not-branch : goal.returns-then-not-branch
unfolding any_event
returns-then-not-branch c = unlawful_here _ _ any_event c.in_ok-may_follow.field-0 (omega arith) c.loop-i.invariant.lawful c.if-not-branch.true
    c.in_ok-may_follow.ensures.follows

pub loop-i-preserved : goal.loop-i-preserved
unfolding any_event
loop-i-preserved c = record {
  lawful = lawful_more _ _ any_event c.in_ok-may_follow.field-0 (omega arith) c.loop-i.invariant.lawful
      c.if-not-branch.false c.in_ok-may_follow.ensures.follows;
  found = found_more _ _ any_event (length _) _ (omega arith) c.loop-i.invariant.found.live_size c.in_ok-follow.ensures.found;
  followed = followed_more _ _ any_event (length _) _ (omega arith) c.loop-i.invariant.found.live_size c.in_ok-follow.ensures.followed;
}

pub follow-requires-clause-climbed : goal.follow-requires-clause-climbed
unfolding any_event
follow-requires-clause-climbed c = rw c.as_slice-in-loop-i.ensures.value (c.in_ok-may_follow.ensures.climbed c.if-not-branch.false)

pub may_follow-requires-clause-found : goal.may_follow-requires-clause-found
may_follow-requires-clause-found c = found_from _ _ _ c.loop-i.invariant.found

pub may_follow-requires-clause-known : goal.may_follow-requires-clause-known
may_follow-requires-clause-known c = rw c.as_slice.ensures.value at c.settle-settled.ensures.known

pub may_follow-requires-clause-settled : goal.may_follow-requires-clause-settled
may_follow-requires-clause-settled c = c.settle-settled.ensures.answer

pub follow-requires-clause-lawful : goal.follow-requires-clause-lawful
follow-requires-clause-lawful c = c.loop-i.invariant.lawful

pub follow-requires-clause-next : goal.follow-requires-clause-next
follow-requires-clause-next c = c.in_ok-may_follow.ensures.follows.0 c.if-not-branch.false

pub follow-requires-clause-followed : goal.follow-requires-clause-followed
follow-requires-clause-followed c = let k = rw c.as_slice.ensures.value at c.settle-settled.ensures.known in k.followed

pub follow-requires-clause-found : goal.follow-requires-clause-found
follow-requires-clause-found c = let f = found_from _ _ _ c.loop-i.invariant.found in f.is

pub follow-requires-clause-room : goal.follow-requires-clause-room
follow-requires-clause-room c = let n = length-take-le c.loop-i.i c.args.events.now (omega arith) in let s = c.loop-i.invariant.found.live_size in omega arith

pub follow-requires-clause-short : goal.follow-requires-clause-short
follow-requires-clause-short c = let n = length-take-le c.loop-i.i c.args.events.now (omega arith) in let short = c.requires.short in omega arith

pub returns : goal.returns
returns c = all_found _ c.loop-i.i _ _ (omega arith) c.loop-i.invariant.lawful c.loop-i.invariant.found c.loop-i.invariant.followed
