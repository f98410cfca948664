use Rattle.rx_ground.proofs.Common.{◌≡◌, Option, None, is_some, refl, sym, subst, find, HubDue, IsDueIn, ConcernsHub, Hubs, AreTied}
use Rattle.std.proofs.Common.{MatchOption}
use Rattle.rx_ground.proofs.TiedWhileSettling.{hub_next, node_forced, quiet_settled, between_rechained}
use Rattle.rx_ground.proofs.base.Ground.find_forced.Goals as goal
use Rattle.std.proofs.Common.{rules}

pub returns-in-Some-clause-next : goal.returns-in-Some-clause-next
returns-in-Some-clause-next g c =
    let h = c.self.inside.register.history in
    let was : AreTied c.self.inside.register.base g.R.Resource h c.self.inside.tree c.self.inside.hubs = rw (← c.self.view_is) at c.requires.between.tied in
    let same = sym c.in-Some.ensures.kept in
    hub_next g.R.Resource _ (subst (λ (hs : Hubs). AreTied c.self.inside.register.base g.R.Resource h c.self.inside.tree hs) same was) c.in-Some.due
    (subst (λ (hs : Hubs). IsDueIn hs.hubs c.in-Some.due) same c.in-Some.ensures.due)
    (subst (λ (hs : Hubs). ConcernsHub hs.hubs c.in-Some.due) same c.in-Some.ensures.concerns)

-- nothing was found
not_found : {A : Type 0} (P : HubDue → Type 0) (o : Option HubDue) → o ≡ None → A → MatchOption o A P
not_found {A = A} P o none a = subst (λ (x : Option HubDue). MatchOption x A P) (sym none) a

pub returns-in_err-node-clause-between : goal.returns-in_err-node-clause-between
returns-in_err-node-clause-between g c = between_rechained _ c.self.view_is c.requires.between refl refl c.in_default.ensures.kept c.next_due.ensures.kept
    c.next_due.ensures.chained

pub returns-in_err-node-clause-next : goal.returns-in_err-node-clause-next
returns-in_err-node-clause-next g c = search (rules, AreTied, not_found, quiet_settled)

pub returns-clause-between : goal.returns-clause-between
returns-clause-between g c = between_rechained _ c.self.view_is c.requires.between refl refl c.in_default.ensures.kept c.next_due.ensures.kept
    c.next_due.ensures.chained

pub returns-clause-next : goal.returns-clause-next
returns-clause-next g c = search (rules, AreTied, node_forced, is_some, find)
