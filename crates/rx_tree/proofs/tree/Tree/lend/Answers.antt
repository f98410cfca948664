use Rattle.rx_tree.proofs.Common.{◌≡◌, cond, Some, None, ap, is_owned, one_lease_more, nodes_of, resources_of, resource_ring, Held}
use Rattle.rx_tree.proofs.Common.{Waiting, Slots, Node, Stowed}
use Rattle.rx_tree.proofs.RemoveSteps.{Moved, moved_where, found_where, stored_stands, stored_before, stored_after, off_tied, off_chain}
use Rattle.rx_tree.proofs.CountSteps.{counted_relinked, more_lent}
use Rattle.rx_tree.proofs.tree.Tree.lend.Given.{Over}
use Rattle.rx_tree.proofs.tree.Tree.lend.Goals as goal
use Rattle.rx_tree.proofs.tree.Tree.lend.Goals.{After-lend}
use Rattle.std.proofs.Common.{rules}

pub leave-requires-clause-place : goal.leave-requires-clause-place
leave-requires-clause-place g c = search (rules, found_where, nodes_of, resources_of, stored_stands)

pub leave-requires-clause-before : goal.leave-requires-clause-before
leave-requires-clause-before g c = stored_before c.self.inside.store _ c.self.invariant.tied _
    (found_where (is_owned (nodes_of c.self.inside.store)) _ (rw (← c.self.view_is) at c.requires.owned)).1

pub leave-requires-clause-after : goal.leave-requires-clause-after
leave-requires-clause-after g c = stored_after c.self.inside.store _ c.self.invariant.tied _
    (found_where (is_owned (nodes_of c.self.inside.store)) _ (rw (← c.self.view_is) at c.requires.owned)).1

pub lend-requires-clause-counted : goal.lend-requires-clause-counted
lend-requires-clause-counted g c = counted_relinked c.self.inside.store c.leave.new.self c.leave.ensures.rest c.self.invariant.counted

-- with a lease more out the resource is on no ring
moved : (g : Over) (c : After-lend g) →
    Moved c.self.inside.store c.lend.new.self (record { slot = c.args.res.slot; number = c.args.res.number }) one_lease_more
moved g c = let m = c.lend.ensures in moved_where c.self.inside.store c.leave.new.self _ _ _ (is_owned (nodes_of c.self.inside.store))
    (rw (← c.self.view_is) at c.requires.owned) c.self.invariant.tied (λ _ _ _. c.leave.ensures.leaves) c.leave.ensures.rest m.changes m.links m.nodes

-- nor does it belong on one
none : {T : Type 0} (nodes : Slots Node) (stowed : Stowed T) → resource_ring nodes (one_lease_more stowed) ≡ None
none nodes stowed = ap (λ l. cond l None (Some (cond (is_owned nodes stowed) (Held stowed.node.slot) Waiting))) (more_lent stowed)

pub invariant_of-self : goal.invariant_of-self
invariant_of-self g c = let w = moved g (goal.at.invariant_of-self g c).After-lend in
    record { tied = off_tied w (none (nodes_of c.self.inside.store) w.stowed); counted = c.lend.ensures.counted }

pub returns-clause-chain : goal.returns-clause-chain
returns-clause-chain g c = let w = moved g (goal.at.returns-clause-chain g c).After-lend in
    rw (← c.self.view_is) (off_chain w (none (nodes_of c.self.inside.store) w.stowed))
