-- The base of a history reads as a list of events with the same hubs and open nodes.
use Rattle.rx_event.proofs.Laws.Common.{◌≡◌, ℕ, zero, suc, ◌+◌, ◌<◌, ◌≤◌, Bool, true, false, List, [], ◌∷◌, length, drop, map, cond, Option, Some, None, refl}
use Rattle.rx_event.proofs.Laws.Common.{sym, ap, subst, ◌∙◌, arith, inl, inr, ◌⊎◌, nat_lt, ◌==◌, slice_get, filter, not, ◌&&◌, list_any, range_with_len}
use Rattle.rx_event.proofs.Laws.Common.{option_and_then, option_map_or, cases_Bool, cases_lt, cases_order, and_parts, both_ways, eqb-true, eq-eqb, false≢true}
use Rattle.rx_event.proofs.Laws.Common.{slice_get_past, slice_get_within, same_Some, Kind, Mode, Inner, Event, Open, Hub}
use Rattle.rx_event.proofs.Laws.Common.{Accept, Lease, End, Close, makes_node, makes_hub, parent_named, is_switch, is_inner_of, at, parent, if_less, shuts}
use Rattle.rx_event.proofs.Laws.Common.{is_shut, is_open, Kept, node_kept, resource_kept, shown, base_of, is_switched_inner, keep_node}
use Rattle.std.proofs.lemmas.Option.{slice_get-map}
use Rattle.std.proofs.lemmas.List.FromFn.{length-map-range_with_len}
use Rattle.rx_event.proofs.Laws.SoundForm.{TwoOpenInners}
use Rattle.rx_event.specs.declared.base.BaseResource.{BaseResource}
use Rattle.rx_event.specs.declared.base.BaseLease.{BaseLease}
use Rattle.rx_event.specs.Kept.{find_by, hub_kept, lease_kept, resource_shown, lease_shown, shown_at}
use Rattle.rx_event.specs.Bases.{keep_hub, mode_of}
use Rattle.rx_event.proofs.Laws.SameTree.{Alike}
use Rattle.rx_event.proofs.Laws.Places.{at_within}
use Rattle.rx_event.proofs.Laws.Parents.{parent-lt}
use Rattle.rx_event.proofs.Laws.Openness.{is_open_step, is_open_within, parent_open}
use Rattle.rx_event.proofs.Laws.Searches.{list_any_found}
use Rattle.rx_event.proofs.Laws.Stands.{open_node, event_at}
use Rattle.std.proofs.Common.{rules}

-- records by their numbers ------------------------------------------------------------------------

unequal : (a b : ℕ) → (a < b) ⊎ (b < a) → (a == b) ≡ false
unequal a b apart = search (rules, cases_Bool, eqb-true)

module _ {X : Type 0} (number : X → ℕ) (keep : ℕ → X) (numbered : (n : ℕ) → number (keep n) ≡ n) (p : ℕ → Bool) where
  find_apart : (s n k : ℕ) → (k < s) ⊎ (s + n ≤ k) → find_by number (map keep (filter p (range_with_len s n))) k ≡ None
  find_apart s zero k out = refl
  find_apart s (suc n) k out = by_test (p s) (find_apart (s + 1) n k (further out)) (first out) where
    further : (k < s) ⊎ (s + suc n ≤ k) → (k < s + 1) ⊎ ((s + 1) + n ≤ k)
    further (inl l) = inl (omega arith)
    further (inr l) = inr (omega arith)

    first : (k < s) ⊎ (s + suc n ≤ k) → (number (keep s) == k) ≡ false
    first (inl l) = ap (λ m. m == k) (numbered s) ∙ unequal s k (inr l)
    first (inr l) = ap (λ m. m == k) (numbered s) ∙ unequal s k (inl (omega arith))

    by_test : (b : Bool) → find_by number (map keep (filter p (range_with_len (s + 1) n))) k ≡ None → (number (keep s) == k) ≡ false →
        find_by number (map keep (cond b (s ∷ filter p (range_with_len (s + 1) n)) (filter p (range_with_len (s + 1) n)))) k ≡ None
    by_test true rest no_first = ap (λ c. cond c (Some (keep s)) (find_by number (map keep (filter p (range_with_len (s + 1) n))) k)) no_first ∙ rest
    by_test false rest no_first = rest

  find_in : (s n k : ℕ) → s ≤ k → k < s + n → find_by number (map keep (filter p (range_with_len s n))) k ≡ cond (p k) (Some (keep k)) None
  find_in s zero k above below = absurd (omega arith)
  find_in s (suc n) k above below = by_order (cases_order s k) (λ l. find_in (s + 1) n k (omega arith) (omega arith)) where
    rest : Option X
    rest = find_by number (map keep (filter p (range_with_len (s + 1) n))) k

    here : (b : Bool) → s ≡ k → p s ≡ b →
        find_by number (map keep (cond b (s ∷ filter p (range_with_len (s + 1) n)) (filter p (range_with_len (s + 1) n)))) k ≡ cond (p k) (Some (keep k)) None
    here true same at_s = ap (λ c. cond c (Some (keep s)) rest) (ap (λ m. m == k) (numbered s) ∙ eq-eqb s k same) ∙ ap (λ m. Some (keep m)) same ∙
        ap (λ c. cond c (Some (keep k)) None) (sym at_s ∙ ap p same)
    here false same at_s = find_apart (s + 1) n k (inl (omega arith)) ∙ ap (λ c. cond c (Some (keep k)) None) (sym at_s ∙ ap p same)

    later : (b : Bool) → (s < k) ⊎ (k < s) → rest ≡ cond (p k) (Some (keep k)) None →
        find_by number (map keep (cond b (s ∷ filter p (range_with_len (s + 1) n)) (filter p (range_with_len (s + 1) n)))) k ≡ cond (p k) (Some (keep k)) None
    later true apart found = ap (λ c. cond c (Some (keep s)) rest) (ap (λ m. m == k) (numbered s) ∙ unequal s k apart) ∙ found
    later false apart found = found

    by_order : (s ≡ k) ⊎ ((s < k) ⊎ (k < s)) → (s < k → rest ≡ cond (p k) (Some (keep k)) None) →
        find_by number (map keep (filter p (range_with_len s (suc n)))) k ≡ cond (p k) (Some (keep k)) None
    by_order (inl same) further = here (p s) same refl
    by_order (inr (inl l)) further = later (p s) (inl l) (further l)
    by_order (inr (inr l)) further = absurd (omega arith)

  -- the record of this number, where the number passes
  pub found : (len : ℕ) → ((n : ℕ) → p n ≡ true → n < len) → (k : ℕ) →
      find_by number (map keep (filter p (range_with_len 0 len))) k ≡ cond (p k) (Some (keep k)) None
  found len within k = search (rules, cases_lt, cond, map, filter, range_with_len, find_in, find_apart)

-- what a base keeps -------------------------------------------------------------------------------

pub node_of_base : (b : Kept) (h : List Event) (n : ℕ) → node_kept (base_of b h) n ≡ cond (is_open h n) (Some (keep_node b h n)) None
unfolding base_of
node_of_base b h = search (rules, found, length, is_open_within)

pub hub_of_base : (b : Kept) (h : List Event) (n : ℕ) → hub_kept (base_of b h) n ≡ cond (at makes_hub h n) (Some (keep_hub h n)) None
unfolding base_of
hub_of_base b h = search (rules, found, length, at_within)

pub range_at : (s n k : ℕ) → k < n → slice_get (range_with_len s n) k ≡ Some (s + k)
range_at s zero k l = absurd (omega arith)
range_at s (suc n) zero l = ap Some (let e : s ≡ s + 0 = omega arith in e)
range_at s (suc n) (suc k) l = range_at (s + 1) n k (omega arith) ∙ ap Some (let e : (s + 1) + k ≡ s + suc k = omega arith in e)

pub length-shown : (b : Kept) → length (shown b) ≡ b.at_length
unfolding shown
length-shown b = length-map-range_with_len (shown_at b) 0 b.at_length

pub shown_get : (b : Kept) (n : ℕ) → n < b.at_length → slice_get (shown b) n ≡ Some (shown_at b n)
unfolding shown
shown_get b n l = search (rules, slice_get-map, range_with_len, range_at)

-- what a place of a base's list is: an open node's event, or nothing that makes or shuts a node
abbrev pub is_inert : ℕ → Event → Bool
is_inert m (Hub mode) = true
is_inert m (Accept node tag) = true
is_inert m (Lease r) = true
is_inert m (Close c) = c == m
is_inert m _ = false

abbrev pub KeptAt : List Event → ℕ → Event → Type 0
KeptAt h m x = ((is_open h m ≡ true) × (slice_get h m ≡ Some x)) ⊎ (is_inert m x ≡ true)

kept_place : (b : Kept) (h : List Event) (m : ℕ) → m < length h → KeptAt h m (shown_at (base_of b h) m)
kept_place b h m l = search (rules, node_of_base, eq-eqb, is_inert, option_map_or, slice_get, event_at, cond, KeptAt)

pub base_length : (b : Kept) (h : List Event) → (base_of b h).at_length ≡ length h
unfolding base_of
base_length b h = refl

pub length_base : (b : Kept) (h : List Event) → length (shown (base_of b h)) ≡ length h
length_base b h = length-shown (base_of b h) ∙ base_length b h

-- what stands at a place of the base's list
pub kept_at : (b : Kept) (h : List Event) (m : ℕ) (x : Event) → slice_get (shown (base_of b h)) m ≡ Some x → KeptAt h m x
kept_at b h m x at_m =
    let l : m < length h = rw (← length_base b h) (slice_get_within (shown (base_of b h)) m x at_m) in
    let same : shown_at (base_of b h) m ≡ x = same_Some (shown_at (base_of b h) m) x (sym (shown_get (base_of b h) m (rw (base_length b h) l)) ∙ at_m) in
    subst (λ (y : Event). KeptAt h m y) same (kept_place b h m l)

-- an open node's event is there
pub kept_open : (b : Kept) (h : List Event) (n : ℕ) → is_open h n ≡ true → slice_get (shown (base_of b h)) n ≡ slice_get h n
kept_open b h n o =
    let l : n < length h = is_open_within h n o in
    let there = event_at h n l in
    shown_get (base_of b h) n (rw (base_length b h) l) ∙
    ap (λ k. Some (option_map_or (λ r. r.made) k (option_map_or (λ r. Hub r.mode) (hub_kept (base_of b h) n)
    (option_map_or (resource_shown n) (resource_kept (base_of b h) n) (lease_shown (base_of b h) n)))))
    (node_of_base b h n ∙ ap (λ c. cond c (Some (keep_node b h n)) None) o) ∙ ap (λ x. Some (option_map_or (λ e. e) x (Close n))) there.1 ∙ sym there.1

pub closed_here : (b : Kept) (h : List Event) (n : ℕ) → is_open h n ≡ false → at makes_node (shown (base_of b h)) n ≡ false
closed_here b h n closed = by_event (slice_get (shown (base_of b h)) n) refl where
  inert : (x : Event) → is_inert n x ≡ true → makes_node x ≡ false
  inert x0 i = search (rules, false≢true)

  by_case : (x : Event) → KeptAt h n x → makes_node x ≡ false
  by_case x (inl there) = absurd (both_ways _ closed there.0)
  by_case x (inr i) = inert x i

  by_event : (o : Option Event) → slice_get (shown (base_of b h)) n ≡ o → option_map_or makes_node o false ≡ false
  by_event None at_n = refl
  by_event (Some x) at_n = by_case x (kept_at b h n x at_n)

pub slice_get-drop : {X : Type 0} (k : ℕ) (xs : List X) (i : ℕ) → slice_get (drop k xs) i ≡ slice_get xs (k + i)
slice_get-drop zero xs i = ap (slice_get xs) (let e : i ≡ zero + i = omega arith in e)
slice_get-drop (suc k) [] i = sym (slice_get_past [] (suc k + i) (omega arith))
slice_get-drop (suc k) (x ∷ xs) i = search (rules, slice_get, slice_get-drop k xs i)

inner_parent : (h : List Event) (f n : ℕ) → nat_lt f n ≡ true → at (is_inner_of f) h n ≡ true → parent h n ≡ Some f
unfolding parent
inner_parent h f n less inner = search (rules, option_and_then, slice_get, cond, option_map_or, false≢true, eqb-true)

-- no later place of the base's list shuts an open node
not_shut_later : (b : Kept) {h : List Event} → ((f x y : ℕ) → TwoOpenInners h f x y → x ≡ y) → (n m : ℕ) {x : Event} → is_open h n ≡ true → n < m →
    slice_get (shown (base_of b h)) m ≡ Some x → shuts (shown (base_of b h)) n x ≡ true → ⊥
not_shut_later b {h} law n m {x} o later at_m shut = by_event x (kept_at b h m x at_m) shut where
  s : List Event
  s = shown (base_of b h)

  same_at : (t : Event → Bool) (k : ℕ) → is_open h k ≡ true → at t s k ≡ at t h k
  same_at t k k_open = ap (λ e. option_map_or t e false) (kept_open b h k k_open)

  exchanged : (f : ℕ) (kind : Kind) → is_open h m ≡ true → slice_get h m ≡ Some (Open (Inner f) kind) → is_switched_inner s f n ≡ true → ⊥
  exchanged f kind m_open at_m switched =
      let parts = and_parts (nat_lt f n && at is_switch s f) (at (is_inner_of f) s n) switched in
      let front = and_parts (nat_lt f n) (at is_switch s f) parts.0 in
      let inner : at (is_inner_of f) h n ≡ true = sym (same_at (is_inner_of f) n o) ∙ parts.1 in
      let f_open : is_open h f ≡ true = parent_open h n f o (inner_parent h f n front.0 inner) in
      let same = law f n m (record {
        switch = sym (same_at is_switch f f_open) ∙ front.1;
        one = inner;
        one_open = o;
        other = ap (λ e. option_map_or (is_inner_of f) e false) at_m ∙ eq-eqb f f refl;
        other_open = m_open;
      }) in absurd (omega arith)

  by_event : (x : Event) → KeptAt h m x → shuts s n x ≡ true → ⊥
  by_event (End c t) (inl there) shut = both_ways _ (ap (λ e. option_map_or makes_node e false) there.1) (open_node h m there.0)
  by_event (End c t) (inr i) shut = false≢true i
  by_event (Close c) (inl there) shut = both_ways _ (ap (λ e. option_map_or makes_node e false) there.1) (open_node h m there.0)
  by_event (Close c) (inr i) shut = let e = eqb-true c m i in let f = eqb-true c n shut in absurd (omega arith)
  by_event (Open (Inner f) kind) (inl there) shut = exchanged f kind there.0 there.1 shut
  by_event (Open (Inner f) kind) (inr i) shut = false≢true i
  by_event _ k shut = false≢true shut

not_shut_here : (b : Kept) (h : List Event) → ((f x y : ℕ) → TwoOpenInners h f x y → x ≡ y) → (n : ℕ) → is_open h n ≡ true →
    is_shut (shown (base_of b h)) n ≡ false
unfolding is_shut
not_shut_here b h law n o = elim (cases_Bool (list_any (shuts (shown (base_of b h)) n) (drop (suc n) (shown (base_of b h))))) [
  | inr none ↦ none
  | inl some ↦
      let place = list_any_found (shuts (shown (base_of b h)) n) (drop (suc n) (shown (base_of b h))) some in
      absurd (not_shut_later b law n (suc n + place.0) o (omega arith) (sym (slice_get-drop (suc n) (shown (base_of b h)) place.0) ∙ place.2) place.3)
]

parent_of_event : (s h : List Event) (n : ℕ) → slice_get s n ≡ slice_get h n → parent s n ≡ parent h n
unfolding parent
parent_of_event s h n same = ap (λ x. option_and_then (if_less n) (option_and_then parent_named x)) same

open_within_base : (k : ℕ) (b : Kept) (h : List Event) → ((f x y : ℕ) → TwoOpenInners h f x y → x ≡ y) → (n : ℕ) → n < k →
    is_open (shown (base_of b h)) n ≡ is_open h n
open_within_base zero b h law n l = absurd (omega arith)
open_within_base (suc k) b h law n l = by_test (is_open h n) refl (λ m less. open_within_base k b h law m (omega arith)) where
  s : List Event
  s = shown (base_of b h)

  above : ((m : ℕ) → m < n → is_open s m ≡ is_open h m) → is_open h n ≡ true → (x : Option ℕ) → parent h n ≡ x → option_map_or (is_open s) x true ≡ true
  above further o None below = refl
  above further o (Some m) below = further m (parent-lt h n m below) ∙ parent_open h n m o below

  by_test : (o : Bool) → is_open h n ≡ o → ((m : ℕ) → m < n → is_open s m ≡ is_open h m) → is_open s n ≡ o
  by_test true o further =
      let stands : at makes_node s n ≡ true = ap (λ e. option_map_or makes_node e false) (kept_open b h n o) ∙ open_node h n o in
      let open_above : option_map_or (is_open s) (parent s n) true ≡ true =
      ap (λ x. option_map_or (is_open s) x true) (parent_of_event s h n (kept_open b h n o)) ∙ above further o (parent h n) refl in
      is_open_step s n ∙ (λ i. (stands i && not (not_shut_here b h law n o i)) && open_above i)
  by_test false closed further = is_open_step s n ∙ (search (rules, closed_here, not, option_map_or))

-- the base of a lawful history has the same hubs and open nodes
pub base_alike : (b : Kept) (h : List Event) → ((f x y : ℕ) → TwoOpenInners h f x y → x ≡ y) → Alike h (shown (base_of b h))
base_alike b h law =
    record {
      same_length = sym (length_base b h);
      same_open = λ n. sym (open_within_base (suc n) b h law n (omega arith));
      same_made = λ n o. sym (kept_open b h n o);
      same_hub = λ n mode at_n. hub_here n mode at_n;
      same_hub_back = λ n mode at_n. hub_there n mode (kept_at b h n (Hub mode) at_n) at_n;
    }
  where
    hub_here : (n : ℕ) (mode : Mode) → slice_get h n ≡ Some (Hub mode) → slice_get (shown (base_of b h)) n ≡ Some (Hub mode)
    hub_here n mode at_n =
        let closed : is_open h n ≡ false = no_node n mode at_n (cases_Bool (is_open h n)) in
        let l : n < length h = slice_get_within h n (Hub mode) at_n in
        shown_get (base_of b h) n (rw (base_length b h) l) ∙ ap Some (ap (λ k. option_map_or (λ r. r.made) k (option_map_or (λ r. Hub r.mode) (hub_kept
        (base_of b h) n) (option_map_or (resource_shown n) (resource_kept (base_of b h) n) (lease_shown (base_of b h) n)))) (node_of_base b h n ∙
        ap (λ c. cond c (Some (keep_node b h n)) None) closed) ∙
        ap (λ k. option_map_or (λ r. Hub r.mode) k (option_map_or (resource_shown n) (resource_kept (base_of b h) n) (lease_shown (base_of b h) n)))
        (hub_of_base b h n ∙ ap (λ e. cond (option_map_or makes_hub e false) (Some (keep_hub h n)) None) at_n) ∙
        ap (λ e. Hub (mode_of (option_map_or (λ x. x) e (Close n)))) at_n)
      where
        no_node : (n : ℕ) (mode : Mode) → slice_get h n ≡ Some (Hub mode) → (is_open h n ≡ true) ⊎ (is_open h n ≡ false) → is_open h n ≡ false
        no_node n mode at_n (inr closed) = closed
        no_node n mode at_n (inl o) = absurd (both_ways _ (ap (λ e. option_map_or makes_node e false) at_n) (open_node h n o))

    hub_there : (n : ℕ) (mode : Mode) → KeptAt h n (Hub mode) → slice_get (shown (base_of b h)) n ≡ Some (Hub mode) → slice_get h n ≡ Some (Hub mode)
    hub_there n mode (inl there) at_n = there.1
    hub_there n mode (inr i) at_n = by_tests (cases_Bool (is_open h n)) (cases_Bool (at makes_hub h n)) where
      l : n < length h
      l = rw (← length_base b h) (slice_get_within (shown (base_of b h)) n (Hub mode) at_n)

      made : shown_at (base_of b h) n ≡ Hub mode
      made = same_Some (shown_at (base_of b h) n) (Hub mode) (sym (shown_get (base_of b h) n (rw (base_length b h) l)) ∙ at_n)

      hub_event : (e : Event) → makes_hub e ≡ true → e ≡ Hub (mode_of e)
      hub_event e is = grind arith

      in_event : (o : Option Event) → option_map_or makes_hub o false ≡ true → o ≡ Some (Hub (mode_of (option_map_or (λ x. x) o (Close n))))
      in_event None is = absurd (false≢true is)
      in_event (Some e) is = ap Some (hub_event e is)

      -- neither a resource's record nor a lease's shows a hub
      no_lease : (k : Option BaseLease) → option_map_or (λ r. Lease r.resource) k (Close n) ≡ Hub mode → ⊥
      no_lease None same = both_ways (makes_hub (Close n)) refl (ap makes_hub same)
      no_lease (Some k) same = both_ways (makes_hub (Lease k.resource)) refl (ap makes_hub same)

      no_hub : (k : Option BaseResource) → option_map_or (resource_shown n) k (lease_shown (base_of b h) n) ≡ Hub mode → ⊥
      no_hub None same = no_lease (lease_kept (base_of b h) n) same
      no_hub (Some k) same = both_ways (makes_hub (resource_shown n k)) refl (ap makes_hub same)

      past_node : is_open h n ≡ false → shown_at (base_of b h) n ≡ option_map_or (λ r. Hub r.mode) (hub_kept (base_of b h) n)
          (option_map_or (resource_shown n) (resource_kept (base_of b h) n) (lease_shown (base_of b h) n))
      past_node closed = search (rules, node_of_base)

      by_tests : (is_open h n ≡ true) ⊎ (is_open h n ≡ false) → (at makes_hub h n ≡ true) ⊎ (at makes_hub h n ≡ false) → slice_get h n ≡ Some (Hub mode)
      by_tests (inl o) hub = sym (kept_open b h n o) ∙ at_n
      by_tests (inr closed) (inl hub) = search (rules, past_node, hub_of_base, in_event, made)
      by_tests (inr closed) (inr other) = search (rules, no_hub, past_node, hub_of_base, made)
