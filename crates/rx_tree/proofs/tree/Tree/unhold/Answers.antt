use Rattle.rx_tree.proofs.Common.{sym, ◌∙◌, is_owned, removed, nodes_of, resources_of}
use Rattle.rx_tree.proofs.RemoveSteps.{Moved, moved_where, found_where, stored_stands, stored_before, stored_after, belongs, stored_there, ring_there}
use Rattle.rx_tree.proofs.RemoveSteps.{last_there, off_tied, off_chain, on_tied, on_chain}
use Rattle.rx_tree.proofs.CountSteps.{counted_relinked}
use Rattle.rx_tree.proofs.tree.Tree.unhold.Given.{Over}
use Rattle.rx_tree.proofs.tree.Tree.unhold.Goals as goal
use Rattle.rx_tree.proofs.tree.Tree.unhold.Goals.{After-mark_removed}
use Rattle.std.proofs.Common.{rules}

pub leave-requires-clause-place : goal.leave-requires-clause-place
leave-requires-clause-place g c = search (rules, found_where, nodes_of, resources_of, stored_stands)

pub leave-requires-clause-before : goal.leave-requires-clause-before
leave-requires-clause-before g c = stored_before c.self.inside.store _ c.self.invariant.tied _
    (found_where (is_owned (nodes_of c.self.inside.store)) _ (rw (← c.self.view_is) at c.requires.owned)).1

pub leave-requires-clause-after : goal.leave-requires-clause-after
leave-requires-clause-after g c = stored_after c.self.inside.store _ c.self.invariant.tied _
    (found_where (is_owned (nodes_of c.self.inside.store)) _ (rw (← c.self.view_is) at c.requires.owned)).1

pub mark_removed-requires-clause-counted : goal.mark_removed-requires-clause-counted
mark_removed-requires-clause-counted g c = counted_relinked c.self.inside.store c.leave.new.self c.leave.ensures.rest c.self.invariant.counted

-- it is removed, on no ring yet
moved : (g : Over) (c : After-mark_removed g) →
    Moved c.self.inside.store c.mark_removed.new.self (record { slot = c.args.res.slot; number = c.args.res.number }) removed
moved g c = let m = c.mark_removed.ensures in moved_where c.self.inside.store c.leave.new.self _ _ _ (is_owned (nodes_of c.self.inside.store))
    (rw (← c.self.view_is) at c.requires.owned) c.self.invariant.tied (λ _ _ _. c.leave.ensures.leaves) c.leave.ensures.rest m.changes m.links m.nodes

pub join-requires-clause-end : goal.join-requires-clause-end
join-requires-clause-end g c = let w = moved g (goal.at.join-requires-clause-end g c).After-mark_removed in
    ring_there w c.in-Some.ring (belongs w (sym c.ring_of.ensures ∙ c.in-Some.is))

pub join-requires-clause-place : goal.join-requires-clause-place
join-requires-clause-place g c = stored_there (moved g (goal.at.join-requires-clause-place g c).After-mark_removed)

pub join-requires-clause-last : goal.join-requires-clause-last
join-requires-clause-last g c = let w = moved g (goal.at.join-requires-clause-last g c).After-mark_removed in
    last_there w c.in-Some.ring (belongs w (sym c.ring_of.ensures ∙ c.in-Some.is))

pub invariant_of-self : goal.invariant_of-self
invariant_of-self g c = let w = moved g (goal.at.invariant_of-self g c).After-mark_removed in
    let j = c.join.ensures in
    record {
      tied = on_tied w c.in-Some.ring (belongs w (sym c.ring_of.ensures ∙ c.in-Some.is)) c.join.new.self j.joins j.rest;
      counted = counted_relinked c.mark_removed.new.self c.join.new.self j.rest c.mark_removed.ensures.counted;
    }

pub invariant_of-self-in_default : goal.invariant_of-self-in_default
invariant_of-self-in_default g c = let w = moved g (goal.at.invariant_of-self-in_default g c).After-mark_removed in
    record { tied = off_tied w (belongs w (sym c.ring_of.ensures ∙ c.in_default.is)); counted = c.mark_removed.ensures.counted }

pub returns-in-Some-clause-chain : goal.returns-in-Some-clause-chain
returns-in-Some-clause-chain g c = let w = moved g (goal.at.returns-in-Some-clause-chain g c).After-mark_removed in rw (← c.self.view_is)
    (on_chain w c.in-Some.ring (belongs w (sym c.ring_of.ensures ∙ c.in-Some.is)) c.join.new.self c.join.ensures.joins c.join.ensures.rest)

pub returns-in_default-clause-chain : goal.returns-in_default-clause-chain
returns-in_default-clause-chain g c = let w = moved g (goal.at.returns-in_default-clause-chain g c).After-mark_removed in
    rw (← c.self.view_is) (off_chain w (belongs w (sym c.ring_of.ensures ∙ c.in_default.is)))
