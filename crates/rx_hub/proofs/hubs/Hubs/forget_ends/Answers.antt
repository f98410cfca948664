use Rattle.rx_hub.proofs.Common.{sym, subst, IsLinked, IsQuiet, Hubs}
use Rattle.rx_hub.proofs.HubsForgetEnds.{linked_forgot, shown_forgot}
use Rattle.rx_hub.proofs.hubs.Hubs.forget_ends.Goals as goal
use Rattle.std.proofs.Common.{rules}

pub invariant_of-self : goal.invariant_of-self
invariant_of-self c =
    let s = c.self.inside in
    subst (λ (t : Hubs). IsLinked t s.waiting s.due s.noted) (sym c.forget_ends.ensures)
    (linked_forgot s.store s.waiting s.due s.noted (subst (λ (v : Hubs). IsQuiet v.hubs) (sym c.self.view_is) c.requires) c.self.invariant)

pub returns : goal.returns
returns c = search (rules, shown_forgot)
