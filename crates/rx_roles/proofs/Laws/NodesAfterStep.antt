-- Which nodes a step makes: none by an event that makes none; else that event's, and the connection of a hub that waited for one.
use Rattle.rx_event.proofs.Laws.Common.{◌≡◌, ℕ, ◌<◌, ◌≤◌, Bool, true, false, List, [], ◌∷◌, ◌++◌, length, Option, None, refl, sym, ap, ◌∙◌, arith, subst}
use Rattle.rx_event.proofs.Laws.Common.{append_assoc, append-nil, length-append, ◌⊎◌, inl, inr, ◌==◌, ◌&&◌, ◌||◌, not, nat_lt, option_map_or, slice_get_past}
use Rattle.rx_event.proofs.Laws.Common.{cases_lt, cases_order, and_parts, both_ways, false≢true, le-ltb, lt-ltb, eq-eqb, ne_eqb, or_false, and_false}
use Rattle.rx_event.proofs.Laws.Common.{Kept, shown, at, is_open, makes_node, hub_subscribed, MayFollow, IsLawful, IsForcedOn, stays, more}
use Rattle.rx_event.proofs.Laws.Common.{IsConnected, IsForced}
use Rattle.rx_event.proofs.Laws.Common.{connecting, due, IsSettled, parent}
use Rattle.rx_event.specs.declared.event.Event.{Event}
use Rattle.rx_event.specs.declared.event.Event.TheVariants.{Connect, Take}
use Rattle.rx_event.specs.Allowed.{IsAllowed}
use Rattle.rx_event.specs.Claims.Stays.{ends_or_declines, FiresNone, ClosesNone}
use Rattle.rx_event.specs.Forced.{MayWait, none_waits, IsConnectDue}
use Rattle.rx_event.specs.Gone.{AreJust}
use Rattle.rx_event.specs.Tree.{is_standing}
use Rattle.rx_event.proofs.Laws.Calm.{settled_on, closes_none_kept, unforced}
use Rattle.rx_event.proofs.Laws.Dues.{IsDueOn, Fails, at_on, forced_due_on}
use Rattle.rx_event.proofs.Laws.Lawful.{shown_within}
use Rattle.rx_event.proofs.Laws.Openness.{is_open_unchanged, is_open_step, stays_closed_after}
use Rattle.rx_event.proofs.Laws.Places.{slice_get_last, at-append}
use Rattle.rx_event.proofs.Laws.Starts.{begins_with, BeginsWith, lawful_begun, lawful_last, one_hub_waits}
use Rattle.rx_event.proofs.Laws.Waits.{waits_after, settled_connected, connected_first}
use Rattle.std.proofs.Common.{rules}
use Rattle.rx_roles.specs.Roles.{is_among}
use Rattle.rx_roles.proofs.Laws.JustThose.{just_among, just_none}

-- what a step adds ----------------------------------------------------------------------------------

pub record Grows (b k : List Event) : Type 0 where
  pub events : List Event
  pub grows : k ≡ b ++ events

pub grows_on : {b c k : List Event} → Grows b c → Grows c k → Grows b k
grows_on {b} first then = record {
  events = first.events ++ then.events;
  grows = then.grows ∙ ap (λ (x : List Event). x ++ then.events) first.grows ∙ append_assoc b first.events then.events;
}

pub forced_grows : (base : Kept) {b k : List Event} → IsForcedOn base b k → Grows b k
forced_grows base {b} stays = record { events = []; grows = sym (append-nil b) }
forced_grows base (more {k} {e} before is_forced) = grows_on (forced_grows base before) (record { events = e ∷ []; grows = refl })

-- of the step of an event
pub step_grows : (base : Kept) {h k : List Event} (e : Event) → IsForcedOn base (h ++ e ∷ []) k → Grows h k
step_grows base {h} {k} e steps = grows_on (record { events = e ∷ []; grows = refl }) (forced_grows base steps)

-- a node of this number was made between the two histories
abbrev pub is_new : (earlier later : List Event) → ℕ → Bool
is_new earlier later n = at makes_node later n && not (nat_lt n (length earlier))

-- from h to k just these nodes were made, and they are open
pub record StepMakes (h k : List Event) (made : List ℕ) : Type 0 where
  pub grown : Grows h k
  pub makes : AreJust (is_new h k) made
  pub opens : (n : ℕ) → is_among n made ≡ true → is_open k n ≡ true

pub open_node : (h : List Event) (n : ℕ) → is_open h n ≡ true → at makes_node h n ≡ true
open_node h n o = (and_parts _ _ (and_parts (is_standing h n) (option_map_or (is_open h) (parent h n) true) (sym (is_open_step h n) ∙ o)).0).0

-- the event of an older node stands where it stood
pub same_sort : {h k : List Event} → Grows h k → (p : Event → Bool) (n : ℕ) → n < length h → at p k n ≡ at p h n
same_sort {h} g p n l = ap (λ (x : List Event). at p x n) g.grows ∙ at-append p h g.events n l

-- an older node that is open was so
pub open_older : {h k : List Event} → Grows h k → (n : ℕ) → n < length h → is_open k n ≡ true → is_open h n ≡ true
open_older {h} {k} g n l o = by_test (is_open h n) refl where
  by_test : (b : Bool) → is_open h n ≡ b → b ≡ true
  by_test true was = refl
  by_test false closed = absurd (both_ways (is_open k n) (ap (λ (x : List Event). is_open x n) g.grows ∙ stays_closed_after h g.events n l closed) o)

-- what is open behind the step was open before it, or is one of these
pub older : {h k : List Event} {made : List ℕ} → StepMakes h k made → (n : ℕ) → is_open k n ≡ true → (is_open h n ≡ true) ⊎ (is_among n made ≡ true)
older {h} {k} {made} s n o = by_place (cases_lt n (length h)) where
  by_place : (n < length h) ⊎ (length h ≤ n) → (is_open h n ≡ true) ⊎ (is_among n made ≡ true)
  by_place (inl l) = inl (open_older s.grown n l o)
  by_place (inr past) = inr (just_among s.makes n ∙ (rw (open_node k n o, le-ltb n (length h) past) refl))

-- one event more
pub is_new_none : (h : List Event) (n : ℕ) → is_new h h n ≡ false
is_new_none h n = by_place (cases_lt n (length h)) where
  by_place : (n < length h) ⊎ (length h ≤ n) → is_new h h n ≡ false
  by_place (inl l) = rw (lt-ltb n (length h) l) (and_false (at makes_node h n))
  by_place (inr past) = rw (slice_get_past h n past) refl

pub is_new-push : (h b : List Event) (e : Event) (n : ℕ) → length h ≤ length b → is_new h (b ++ e ∷ []) n ≡ (is_new h b n || (makes_node e && (length b == n)))
is_new-push h b e n longer = by_place (cases_order n (length b)) where
  by_place : (n ≡ length b) ⊎ ((n < length b) ⊎ (length b < n)) → is_new h (b ++ e ∷ []) n ≡ (is_new h b n || (makes_node e && (length b == n)))
  by_place (inl same) = rw (
    same,
    slice_get_last b e,
    slice_get_past b (length b) (omega arith),
    le-ltb (length b) (length h) longer,
    eq-eqb (length b) (length b) refl,
  ) refl
  by_place (inr (inl l)) = rw (
    at-append makes_node b (e ∷ []) n l,
    ne_eqb (length b) n (λ is. let i : length b ≡ n = is in omega arith),
    and_false (makes_node e),
  ) (sym (or_false (is_new h b n)))
  by_place (inr (inr past)) = rw (
    slice_get_past (b ++ e ∷ []) n (let l = length-append b (e ∷ []) in omega arith),
    slice_get_past b n (omega arith),
    ne_eqb (length b) n (λ is. let i : length b ≡ n = is in omega arith),
    and_false (makes_node e),
  ) refl

pub is_new_one : (h : List Event) (e : Event) (n : ℕ) → is_new h (h ++ e ∷ []) n ≡ (makes_node e && (length h == n))
is_new_one h e n = is_new-push h h e n (omega arith) ∙ ap (λ (b : Bool). b || (makes_node e && (length h == n))) (is_new_none h n)

-- an event more that makes none
pub makes_none_more : {h k : List Event} (e : Event) → length h ≤ length k → makes_node e ≡ false → StepMakes h k [] → StepMakes h (k ++ e ∷ []) []
makes_none_more {h} {k} e longer plain s = record {
  grown = grows_on s.grown (record { events = e ∷ []; grows = refl });
  makes = just_none (λ n. is_new-push h k e n longer ∙ (λ i. sym (just_among s.makes n) i || (plain i && (length k == n))));
  opens = λ n is. absurd (false≢true is);
}

-- how what is forced begins --------------------------------------------------------------------------

-- no hub waits, or the connection of the one that does comes first; and then each event is due
pub data Begun (base : Kept) (b k : List Event) : Type 0 where
  at_once : IsConnected b → IsDueOn base b k → Begun base b k
  connects_first : {g : ℕ} → IsConnectDue b g → IsConnected (b ++ Connect g ∷ []) → IsDueOn base (b ++ Connect g ∷ []) k → Begun base b k

pub begun : (base : Kept) {b k : List Event} → IsLawful base b → IsForcedOn base b k → IsSettled base k → Begun base b k
begun base {b} {k} law steps settled = by_first (begins_with base steps) where
  by_event : {e : Event} → IsForced base b e → IsForcedOn base (b ++ e ∷ []) k → Begun base b k
  by_event (due whole d) rest = at_once whole (forced_due_on base steps whole)
  by_event (connecting {g = g} d) rest =
      let whole : IsConnected (b ++ Connect g ∷ []) = connected_first base b g (λ m w. one_hub_waits base b law m g w d) in
      connects_first d whole (forced_due_on base rest whole)

  by_first : (k ≡ b) ⊎ BeginsWith base b k → Begun base b k
  by_first (inl same) =
      let whole : IsConnected b = subst (λ (q : List Event). IsConnected q) same (settled_connected base k settled) in
      at_once whole (forced_due_on base steps whole)
  by_first (inr first) = by_event first.first first.rest

node_fails : Fails makes_node
node_fails = record { at_end = λ c t. refl; at_close = λ c. refl }

-- what is due makes no node
pub is_new_on : (base : Kept) (h : List Event) {b k : List Event} → IsDueOn base b k → (n : ℕ) → is_new h k n ≡ is_new h b n
is_new_on base h on n = ap (λ (a : Bool). a && not (nat_lt n (length h))) (at_on base makes_node node_fails on n)

-- events that make no node ---------------------------------------------------------------------------

subscribes_none : (e : Event) → makes_node e ≡ false → hub_subscribed e ≡ None
subscribes_none x0 plain = search rules

none_of : {h : List Event} {w : ℕ} → MayWait h w → w ≡ 0 → IsConnected h
none_of (none_waits none) is = none
none_of _ is = absurd (cc)

-- no hub waits behind an event of a caller that makes no node
pub connected_after : (base : Kept) (h : List Event) (e : Event) → IsLawful base h → IsSettled base h → IsAllowed base h e → makes_node e ≡ false →
    IsConnected (h ++ e ∷ [])
connected_after base h e law settled may plain =
    none_of (waits_after base h e law (settled_connected base h settled) may) (ap (λ (o : Option ℕ). option_map_or (λ g. 1) o 0) (subscribes_none e plain))

-- events that force nothing --------------------------------------------------------------------------

-- nothing is forced by an event that ends, declines, fires and closes nothing and subscribes to no hub
pub forces_none : (base : Kept) {h : List Event} {e : Event} {k : List Event} → IsLawful base h → IsSettled base h → MayFollow base h e →
    ends_or_declines e ≡ false → FiresNone h e → ClosesNone h e → hub_subscribed e ≡ None → IsForcedOn base (h ++ e ∷ []) k → k ≡ h ++ e ∷ []
forces_none base law settled next calm unfired still unsubscribed steps = unforced base steps (settled_on law next settled calm unfired still unsubscribed)

-- nor behind a taking, and all stays open
pub taken_forces_none : (base : Kept) (h : List Event) (r : ℕ) (k : List Event) → IsLawful base h → IsSettled base h → MayFollow base h (Take r) →
    IsForcedOn base (h ++ Take r ∷ []) k → k ≡ h ++ Take r ∷ []
taken_forces_none base h r k law settled next steps =
    forces_none base law settled next refl (λ u. refl) (closes_none_kept h (Take r) refl) refl steps

pub open_past_taking : (base : Kept) (h : List Event) (r : ℕ) (k : List Event) → IsLawful base h → IsSettled base h → MayFollow base h (Take r) →
    IsForcedOn base (h ++ Take r ∷ []) k → (n : ℕ) → is_open k n ≡ is_open h n
open_past_taking base h r k law settled next steps n =
    ap (λ (x : List Event). is_open x n) (taken_forces_none base h r k law settled next steps) ∙ is_open_unchanged h (Take r) refl refl n

-- the event of a step may follow, and a caller's is allowed
pub first_follows : (base : Kept) (h : List Event) (e : Event) (k : List Event) → IsLawful base h → IsLawful base k →
    IsForcedOn base (h ++ e ∷ []) k → MayFollow base h e
first_follows base h e k law lawful steps =
    let begun = shown_within base h law in
    let long : length (shown base) ≤ length (h ++ e ∷ []) = (let l = length-append h (e ∷ []) in omega arith) in
    lawful_last base h e (omega arith) (lawful_begun base steps long lawful)
