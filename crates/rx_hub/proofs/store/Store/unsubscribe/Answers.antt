use Rattle.rx_hub.proofs.Common.{ℕ, ◌≡◌, ◌<◌, ◌-◌, List, Option, IfSome, IsSome, true, min, length, slice_get, vec_capacity, sym, ap, subst, ◌∙◌, Key, is_on}
use Rattle.rx_hub.proofs.Common.{Published, Hub, Hubs, at_hub, unsubscribed, Lists, is_in, list_at, key_in, hub_in, hubs_in, IsKept}
use Rattle.rx_hub.proofs.StoreShowsHubs.{hub_within, hub_get, hub_is, subscriber_in, hubs_left, kept_left}
use Rattle.rx_hub.proofs.store.Store.unsubscribe.Goals as goal

-- the subscriber stands on the hub's list
pub there : (records : List Published) (lists : Lists) (numbers : List ℕ) → IsKept records lists numbers → (key : Key) (i : ℕ) →
    IsSome (slice_get (hubs_in records lists numbers) i) → IfSome (slice_get (hubs_in records lists numbers) i) (λ hub. is_on key hub.subscribers ≡ true) →
    (i < length records) × ((is_in key.slot (list_at lists i) ≡ true) × (key ≡ key_in numbers key.slot))
there records lists numbers kept key i some on =
    let l = hub_within records lists numbers i some in
    let got = hub_get records lists numbers i l in (
      l,
      subscriber_in records lists numbers kept key i (hub_in records lists numbers i) got
          (subst (λ (o : Option Hub). IfSome o (λ hub. is_on key hub.subscribers ≡ true)) got on),
    )

pub leave-requires : goal.leave-requires
leave-requires c =
    let s = c.self.inside in
    let h = there s.records.items s.subscribers s.numbers.items c.self.invariant c.args.key c.args.index
    (subst (λ (v : Hubs). IsSome (slice_get v.hubs c.args.index)) (sym c.self.view_is) c.requires.hub)
    (subst (λ (v : Hubs). IfSome (slice_get v.hubs c.args.index) (λ hub. is_on c.args.key hub.subscribers ≡ true)) (sym c.self.view_is) c.requires.there) in
    record { member = c.promise.ensures.below c.args.index c.args.key.slot h.1.0 }

pub invariant_of-self : goal.invariant_of-self
invariant_of-self c =
    let s = c.self.inside in
    let h = there s.records.items s.subscribers s.numbers.items c.self.invariant c.args.key c.args.index
    (subst (λ (v : Hubs). IsSome (slice_get v.hubs c.args.index)) (sym c.self.view_is) c.requires.hub)
    (subst (λ (v : Hubs). IfSome (slice_get v.hubs c.args.index) (λ hub. is_on c.args.key hub.subscribers ≡ true)) (sym c.self.view_is) c.requires.there) in
    kept_left s.records.items s.subscribers s.numbers.items c.self.invariant c.args.index c.args.key c.leave.new.self h.0 c.promise.ensures h.1.1 h.1.0
    c.leave.ensures.lists c.leave.ensures.length c.leave.ensures.members

pub returns : goal.returns
returns c =
    let s = c.self.inside in
    let h = there s.records.items s.subscribers s.numbers.items c.self.invariant c.args.key c.args.index
    (subst (λ (v : Hubs). IsSome (slice_get v.hubs c.args.index)) (sym c.self.view_is) c.requires.hub)
    (subst (λ (v : Hubs). IfSome (slice_get v.hubs c.args.index) (λ hub. is_on c.args.key hub.subscribers ≡ true)) (sym c.self.view_is) c.requires.there) in
    let left =
    hubs_left s.records.items s.subscribers s.numbers.items c.self.invariant c.args.index c.args.key c.leave.new.self h.0 c.promise.ensures h.1.1 h.1.0
    c.leave.ensures.lists in
    rw (← c.self.view_is) (λ hub got.
    let number = ap (λ (x : Hub). x.number) (hub_is s.records.items s.subscribers s.numbers.items c.args.index hub got).1 in
    (λ i. record {
      hubs = (left ∙ ap (λ n. at_hub n (unsubscribed c.args.key) (hubs_in s.records.items s.subscribers s.numbers.items)) number) i;
      room = min (vec_capacity s.records - length s.records.items) (c.leave.ensures.room i);
      slots = c.leave.ensures.members i;
    }))
