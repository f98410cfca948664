use Rattle.rx_tree.proofs.Common.{sym, ◌∙◌, is_lent, one_lease_less}
use Rattle.rx_tree.proofs.RemoveSteps.{Moved, moved_where, lent_stays, relinks_same, belongs, stored_there, ring_there, last_there, off_tied, off_chain}
use Rattle.rx_tree.proofs.RemoveSteps.{on_tied, on_chain}
use Rattle.rx_tree.proofs.CountSteps.{counted_relinked}
use Rattle.rx_tree.proofs.tree.Tree.unlend.Given.{Over}
use Rattle.rx_tree.proofs.tree.Tree.unlend.Goals as goal
use Rattle.rx_tree.proofs.tree.Tree.unlend.Goals.{After-unlend}

-- with a lease less out the resource is on no ring yet
moved : (g : Over) (c : After-unlend g) →
    Moved c.self.inside.store c.unlend.new.self (record { slot = c.args.res.slot; number = c.args.res.number }) one_lease_less
moved g c = let s = c.self.inside.store in let u = c.unlend.ensures in moved_where s s _ _ _ is_lent (rw (← c.self.view_is) at c.requires.lent)
    c.self.invariant.tied (lent_stays s _ c.self.invariant.tied) (relinks_same s) u.changes u.links u.nodes

pub join-requires-clause-end : goal.join-requires-clause-end
join-requires-clause-end g c = let w = moved g (goal.at.join-requires-clause-end g c).After-unlend in
    ring_there w c.in-Some.ring (belongs w (sym c.unlend.ensures.ring ∙ c.in-Some.is))

pub join-requires-clause-place : goal.join-requires-clause-place
join-requires-clause-place g c = stored_there (moved g (goal.at.join-requires-clause-place g c).After-unlend)

pub join-requires-clause-last : goal.join-requires-clause-last
join-requires-clause-last g c = let w = moved g (goal.at.join-requires-clause-last g c).After-unlend in
    last_there w c.in-Some.ring (belongs w (sym c.unlend.ensures.ring ∙ c.in-Some.is))

pub invariant_of-self : goal.invariant_of-self
invariant_of-self g c = let w = moved g (goal.at.invariant_of-self g c).After-unlend in
    let j = c.join.ensures in
    record {
      tied = on_tied w c.in-Some.ring (belongs w (sym c.unlend.ensures.ring ∙ c.in-Some.is)) c.join.new.self j.joins j.rest;
      counted = counted_relinked c.unlend.new.self c.join.new.self j.rest c.unlend.ensures.counted;
    }

pub invariant_of-self-in_default : goal.invariant_of-self-in_default
invariant_of-self-in_default g c = let w = moved g (goal.at.invariant_of-self-in_default g c).After-unlend in
    record { tied = off_tied w (belongs w (sym c.unlend.ensures.ring ∙ c.in_default.is)); counted = c.unlend.ensures.counted }

pub returns-in-Some-clause-chain : goal.returns-in-Some-clause-chain
returns-in-Some-clause-chain g c = let w = moved g (goal.at.returns-in-Some-clause-chain g c).After-unlend in rw (← c.self.view_is)
    (on_chain w c.in-Some.ring (belongs w (sym c.unlend.ensures.ring ∙ c.in-Some.is)) c.join.new.self c.join.ensures.joins c.join.ensures.rest)

pub returns-in_default-clause-chain : goal.returns-in_default-clause-chain
returns-in_default-clause-chain g c = let w = moved g (goal.at.returns-in_default-clause-chain g c).After-unlend in
    rw (← c.self.view_is) (off_chain w (belongs w (sym c.unlend.ensures.ring ∙ c.in_default.is)))
