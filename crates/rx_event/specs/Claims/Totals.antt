-- What is promised of totals.
use Rattle.std.specs.Prelude.{◌≡◌, ◌+◌, ◌≤◌, ◌&&◌, ◌∷◌, ◌++◌, if◌then◌else◌}
use Rattle.rx_event.specs.Claims.Imports.{ℕ, false, List, [], length, count_by, IsTrue, Terminal, Inner, Kind}
use Rattle.rx_event.specs.Claims.Imports.{Event, Open, Accept, Remove, End, Close, Take, Kept, makes_node, makes_resource, makes_lease, is_item, is_take}
use Rattle.rx_event.specs.Claims.Imports.{is_return, is_use_of, pays, places, is_within, is_open, shuts, is_leased, uses, owed, is_projection_to, stops_of}
use Rattle.rx_event.specs.Claims.Imports.{item_count, accepted_count, taken_count, owned_count, held_count, lease_count, waiting_count, open_count, MayFollow}
use Rattle.rx_event.specs.Claims.Imports.{IsLawful}
use Rattle.rx_event.specs.Claims.Nodes.{IsOpenInner}

-- the totals after one more event
pub record TotalChanges (base : Kept) : Type 0 where
  pub items : (h : List Event) (e : Event) → item_count base (h ++ e ∷ []) ≡ item_count base h + (if is_item e then 1 else 0)
  pub accepted : (h : List Event) (e : Event) →
      accepted_count base (h ++ e ∷ []) ≡ accepted_count base h + (if makes_resource e then 1 else 0)
  pub taken : (h : List Event) (e : Event) → taken_count base (h ++ e ∷ []) ≡ taken_count base h + (if is_take e then 1 else 0)
  pub used : (h : List Event) (e : Event) (r : ℕ) → uses base (h ++ e ∷ []) r ≡ uses base h r + (if is_use_of r e then 1 else 0)
  pub unused : (h : List Event) → IsLawful base h → (r : ℕ) → length h ≤ r → uses base h r ≡ 0
  -- what a FlatMap or Switch owes: a projection adds one, an inner and a declined projection pay one
  pub owed : (h : List Event) (e : Event) → IsLawful base h → MayFollow base h e → (f : ℕ) →
      owed base (h ++ e ∷ []) f + (if pays f e then 1 else 0) ≡ owed base h f + count_by (is_projection_to f) (stops_of h e)
  -- an end or another closing takes resources from those that are held to those that wait, and loses none
  pub unreleased : (h : List Event) (e : Event) → IsLawful base h → MayFollow base h e →
      held_count (h ++ e ∷ []) + waiting_count (h ++ e ∷ []) + (if is_take e then 1 else 0) ≡
      held_count h + waiting_count h + (if makes_resource e then 1 else 0)
  -- a lease is one more that is out until it is returned
  pub leases : (h : List Event) (e : Event) → IsLawful base h → MayFollow base h e →
      lease_count (h ++ e ∷ []) + (if is_return e then 1 else 0) ≡ lease_count h + (if makes_lease e then 1 else 0)
  -- what is owned is held
  pub owned_within : (h : List Event) → owned_count h ≤ held_count h
  pub owned : (h : List Event) (e : Event) → IsLawful base h → makes_resource e ≡ false →
      owned_count (h ++ e ∷ []) ≤ owned_count h
  pub owned_more : (h : List Event) (n tag : ℕ) → IsLawful base h → IsTrue (is_open h n) →
      owned_count (h ++ Accept n tag ∷ []) ≡ owned_count h + 1
  pub owned_less : (h : List Event) (r : ℕ) → IsLawful base h → MayFollow base h (Remove r) →
      owned_count (h ++ Remove r ∷ []) + 1 ≡ owned_count h
  pub held : (h : List Event) (e : Event) → IsLawful base h → MayFollow base h e → makes_resource e ≡ false →
      held_count (h ++ e ∷ []) ≤ held_count h
  pub held_more : (h : List Event) (n tag : ℕ) → IsLawful base h → IsTrue (is_open h n) →
      held_count (h ++ Accept n tag ∷ []) ≡ held_count h + 1
  -- a removal takes what has no lease out from what is held to what waits, and leaves what has one
  pub removed : (h : List Event) (r : ℕ) → IsLawful base h → MayFollow base h (Remove r) →
      held_count (h ++ Remove r ∷ []) + (if is_leased h r then 0 else 1) ≡ held_count h
  pub waiting_more : (h : List Event) (r : ℕ) → IsLawful base h → MayFollow base h (Remove r) →
      waiting_count (h ++ Remove r ∷ []) ≡ waiting_count h + (if is_leased h r then 0 else 1)
  pub waiting_less : (h : List Event) (r : ℕ) → IsLawful base h → MayFollow base h (Take r) →
      waiting_count (h ++ Take r ∷ []) + 1 ≡ waiting_count h
  -- open nodes
  pub opened : (h : List Event) (e : Event) → MayFollow base h e → ((m : ℕ) → shuts h m e ≡ false) →
      open_count (h ++ e ∷ []) ≡ open_count h + (if makes_node e then 1 else 0)
  pub ended : (h : List Event) (c : ℕ) (t : Terminal) →
      open_count (h ++ End c t ∷ []) + count_by (λ n. is_open h n && is_within h c n) (places h) ≡ open_count h
  pub closed : (h : List Event) (c : ℕ) →
      open_count (h ++ Close c ∷ []) + count_by (λ n. is_open h n && is_within h c n) (places h) ≡ open_count h
  pub exchanged : {h : List Event} {f c : ℕ} {kind : Kind} → IsLawful base h → MayFollow base h (Open (Inner f) kind) → IsOpenInner h f c →
      open_count (h ++ Open (Inner f) kind ∷ []) + count_by (λ n. is_open h n && is_within h c n) (places h) ≡ open_count h + 1
