use Rattle.rx_hub.proofs.Common.{ℕ, ◌≡◌, ◌<◌, Some, slice_get, sym, subst, Hub, Hubs}
use Rattle.rx_hub.proofs.StoreShowsHubs.{hubs_added, kept_added}
use Rattle.rx_hub.proofs.store.Store.add.Goals as goal

pub invariant_of-self : goal.invariant_of-self
invariant_of-self c = let s = c.self.inside in rw c.push_reserved.ensures.items (kept_added s.records.items s.subscribers s.numbers.items
    c.self.invariant _ _ c.add.ensures.lists c.add.ensures.members (subst (λ (v : Hubs). (i : ℕ) (hub : Hub) → slice_get v.hubs i ≡ Some hub →
    hub.number < c.args.number) (sym c.self.view_is) c.requires.newest))

pub returns-clause-hubs : goal.returns-clause-hubs
returns-clause-hubs c =
    let s = c.self.inside in
    rw (← c.self.view_is, c.push_reserved.ensures.items)
    (hubs_added s.records.items s.subscribers s.numbers.items c.self.invariant _ c.add.new.self c.add.ensures.lists
    c.add.ensures.members (subst (λ (v : Hubs). (i : ℕ) (hub : Hub) → slice_get v.hubs i ≡ Some hub → hub.number < c.args.number) (sym c.self.view_is)
    c.requires.newest))
