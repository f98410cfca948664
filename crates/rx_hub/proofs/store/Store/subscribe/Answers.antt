use Rattle.rx_hub.proofs.Common.{◌<◌, ◌-◌, IfSome, IsSome, min, length, slice_get, vec_capacity, sym, ap, subst, ◌∙◌, Hub, Hubs, IsFree, AreBelow, at_hub}
use Rattle.rx_hub.proofs.Common.{subscribed, hubs_in, length-set}
use Rattle.rx_hub.proofs.StoreShowsHubs.{hub_within, hub_is, free_lists, below_here, hubs_joined, kept_joined}
use Rattle.rx_hub.proofs.store.Store.subscribe.Goals as goal
use Rattle.std.proofs.Common.{rules}

pub join-requires-clause-list : goal.join-requires-clause-list
join-requires-clause-list c = search (rules, hub_within)

pub join-requires-clause-free : goal.join-requires-clause-free
join-requires-clause-free c = search (rules, free_lists)

pub invariant_of-self : goal.invariant_of-self
invariant_of-self c =
    let s = c.self.inside in
    let l = hub_within s.records.items s.subscribers s.numbers.items c.args.index
    (subst (λ (v : Hubs). IsSome (slice_get v.hubs c.args.index)) (sym c.self.view_is) c.requires.hub) in
    let free = free_lists s.records.items s.subscribers s.numbers.items c.self.invariant c.args.key.slot
    (subst (λ (v : Hubs). IsFree v.hubs c.args.key.slot) (sym c.self.view_is) c.requires.free) in
    let slot = subst (λ (v : Hubs). c.args.key.slot < v.slots) (sym c.self.view_is) c.requires.slot in
    let newest = below_here s.records.items s.subscribers s.numbers.items c.self.invariant c.args.index c.args.key.number
    (subst (λ (v : Hubs). IfSome (slice_get v.hubs c.args.index) (λ hub. AreBelow c.args.key.number hub.subscribers)) (sym c.self.view_is) c.requires.newest)
    l in
    kept_joined s.records.items s.subscribers s.numbers.items c.self.invariant c.args.index c.args.key c.join.new.self l slot free c.join.ensures.lists
    c.join.ensures.length c.join.ensures.members (length-set s.numbers.items c.args.key.slot c.args.key.number) newest

pub returns : goal.returns
returns c =
    let s = c.self.inside in
    let l = hub_within s.records.items s.subscribers s.numbers.items c.args.index
    (subst (λ (v : Hubs). IsSome (slice_get v.hubs c.args.index)) (sym c.self.view_is) c.requires.hub) in
    let free = free_lists s.records.items s.subscribers s.numbers.items c.self.invariant c.args.key.slot
    (subst (λ (v : Hubs). IsFree v.hubs c.args.key.slot) (sym c.self.view_is) c.requires.free) in
    let slot = subst (λ (v : Hubs). c.args.key.slot < v.slots) (sym c.self.view_is) c.requires.slot in
    let joined =
    hubs_joined s.records.items s.subscribers s.numbers.items c.self.invariant c.args.index c.args.key c.join.new.self l slot free c.join.ensures.lists in
    rw (← c.self.view_is) (λ hub got.
    let number = ap (λ (h : Hub). h.number) (hub_is s.records.items s.subscribers s.numbers.items c.args.index hub got).1 in
    (λ i. record {
      hubs = (joined ∙ ap (λ n. at_hub n (subscribed c.args.key) (hubs_in s.records.items s.subscribers s.numbers.items)) number) i;
      room = min (vec_capacity s.records - length s.records.items) (c.join.ensures.room i);
      slots = c.join.ensures.members i;
    }))
