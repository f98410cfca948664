-- Where nodes stand in a lawful history: below nodes, each place below what has such a place, connections topmost.
use Rattle.rx_event.proofs.Laws.Common.{subst, ◌≡◌, ℕ, ◌<◌, Bool, true, List, [], ◌∷◌, length, Some, None, refl, sym, arith, zero, suc}
use Rattle.rx_event.proofs.Laws.Common.{◌⊎◌, take, slice_get, option_map_or, and_parts, length-take-le, slice_get_within, same_Some, none-some, IsLawful}
use Rattle.rx_event.proofs.Laws.Common.{Root, Source, Inner, Notifier, Kept, Place, Kind, Event, Open, Connect, makes_node, has_source, is_merging, is_until}
use Rattle.rx_event.proofs.Laws.Common.{at, parent, is_within, is_open}
use Rattle.rx_event.proofs.Laws.Steps.{named_open, may_open}
use Rattle.rx_event.specs.Lawful.{HasPlace}
use Rattle.rx_event.specs.Allowed.{IsFree}
use Rattle.rx_event.proofs.Laws.Places.{at-take, at_within}
use Rattle.rx_event.proofs.Laws.Parents.{parent-lt, parent_within, parent_name, within_cases}
use Rattle.rx_event.proofs.Laws.Openness.{is_open_step}
use Rattle.rx_event.proofs.Laws.Lawful.{in_base, since_base, FoundAt, found_at}
use Rattle.std.proofs.Common.{rules}

-- what is true of an older event is so in the whole history
pub at_older : (q : Event → Bool) (h : List Event) (n p : ℕ) → n < length h → at q (take n h) p ≡ true → at q h p ≡ true
at_older q h n p l passes = search (rules, length, take, at_within, length-take-le, at-take)

pub event_at : (h : List Event) (n : ℕ) → n < length h → (e : Event) × (slice_get h n ≡ Some e)
event_at [] n l = absurd (omega arith)
event_at (x ∷ h) zero l = (x, refl)
event_at (x ∷ h) (suc n) l = event_at h n (let m = l in omega arith)

-- an open node is a node
pub open_node : (h : List Event) (n : ℕ) → is_open h n ≡ true → at makes_node h n ≡ true
open_node h n o = search (rules, and_parts, option_map_or, is_open_step)

-- the parent of a node is a node
pub parent_node : (base : Kept) → (h : List Event) → IsLawful base h → (n p : ℕ) → parent h n ≡ Some p → at makes_node h p ≡ true
parent_node base h law n p below =
    let l : n < length h = parent_within h n p below in
    let e = event_at h n l in
    at_older makes_node h n p l (open_node (take n h) p (named_open base h law n p e.0 e.1 (parent_name h n p e.0 below e.1)))

-- what was opened was opened at a free place
pub opened_free : (base : Kept) → (h : List Event) → IsLawful base h → (n : ℕ) (place : Place) (kind : Kind) → slice_get h n ≡ Some (Open place kind) →
    HasPlace (take n h) place
opened_free base h law n place kind at_n = by_case (found_at base h law n (Open place kind) at_n) where
  has_place : (place : Place) → IsFree base (take n h) place → HasPlace (take n h) place
  has_place Root free = tt
  has_place _ free = free.1

  by_case : FoundAt base h n (Open place kind) → HasPlace (take n h) place
  by_case (in_base found same) = subst (λ k. HasPlace k place) (sym same) (law.started.placed n place kind found)
  by_case (since_base next) = has_place place (may_open base next)

-- a source stands below what has a place for one
pub source_stands : (base : Kept) → (h : List Event) → IsLawful base h → (n p : ℕ) (kind : Kind) → slice_get h n ≡ Some (Open (Source p) kind) →
    at has_source h p ≡ true
source_stands base h law n p kind at_n = at_older has_source h n p (slice_get_within h n _ at_n) (opened_free base h law n (Source p) kind at_n)

-- an inner observable stands below a FlatMap or a Switch
pub inner_stands : (base : Kept) → (h : List Event) → IsLawful base h → (n p : ℕ) (kind : Kind) → slice_get h n ≡ Some (Open (Inner p) kind) →
    at is_merging h p ≡ true
inner_stands base h law n p kind at_n = at_older is_merging h n p (slice_get_within h n _ at_n) (opened_free base h law n (Inner p) kind at_n)

-- a notifier stands below a TakeUntil
pub notifier_stands : (base : Kept) → (h : List Event) → IsLawful base h → (n p : ℕ) (kind : Kind) → slice_get h n ≡ Some (Open (Notifier p) kind) →
    at is_until h p ≡ true
notifier_stands base h law n p kind at_n = at_older is_until h n p (slice_get_within h n _ at_n) (opened_free base h law n (Notifier p) kind at_n)

-- a connection stands below no node
pub connection_parent : (h : List Event) (c g : ℕ) → slice_get h c ≡ Some (Connect g) → parent h c ≡ None
unfolding parent
connection_parent h c g at_c = rw at_c refl

-- among the ancestors of a node a connection is the topmost: the others stand below it
pub connection_topmost : (h : List Event) (a b g n : ℕ) → slice_get h a ≡ Some (Connect g) → is_within h a n ≡ true → is_within h b n ≡ true →
    is_within h a b ≡ true
connection_topmost h a b g n at_a above other = climb (suc n) n (omega arith) above other where
  climb : (steps m : ℕ) → m < steps → is_within h a m ≡ true → is_within h b m ≡ true → is_within h a b ≡ true
  climb zero m l above other = absurd (omega arith)
  climb (suc steps) m l above other =
      by_case (within_cases h a m above) (within_cases h b m other) (λ p less one two. climb steps p (let i = l in let k = less in omega arith) one two)
    where
      by_case : (a ≡ m) ⊎ ((p : ℕ) × (parent h m ≡ Some p) × (is_within h a p ≡ true)) →
          (b ≡ m) ⊎ ((p : ℕ) × (parent h m ≡ Some p) × (is_within h b p ≡ true)) →
          ((p : ℕ) → p < m → is_within h a p ≡ true → is_within h b p ≡ true → is_within h a b ≡ true) → is_within h a b ≡ true
      by_case x0 x1 rest = search (rules, none-some, connection_parent, parent-lt, same_Some)
