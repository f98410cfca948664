-- The tests that compute decide the rules: ends, sources and connections.
use Rattle.rx_audit.proofs.Common.{◌≡◌, ℕ, zero, suc, ◌+◌, ◌<◌, ◌≤◌, Bool, true, false, List, [], ◌∷◌, Option, Some, None, refl, ap, arith, cond}
use Rattle.rx_audit.proofs.Common.{drop, slice_get, ◌&&◌, list_any, range_with_len, filter, option_map_or, option_and_then, cases_Bool}
use Rattle.rx_audit.proofs.Common.{eqb-true, eq-eqb, false≢true, none-some, option_and_then_some, Terminal, Event, Connect, End}
use Rattle.rx_audit.proofs.Common.{is_subscriber_of, is_connect_of, hub_subscribed, hub_connected, at, places, is_open, SourceEnded, same_terminal}
use Rattle.rx_audit.proofs.Common.{names_number}
use Rattle.rx_audit.proofs.Common.{hub_subscribed_at, hub_connected_at, joins, ends_source, is_disconnected, open_subscribed, open_connected, any_has_key}
use Rattle.rx_audit.proofs.Common.{subscribed_event}
use Rattle.rx_audit.proofs.Common.{connected_event, list_any-same, and_true, and_false, hub_ended, ⊎_elim, ◌∙◌}
use Rattle.std.proofs.lemmas.Bool.{or_parts}
use Rattle.std.proofs.lemmas.Map.Keys.{any_passes_from_place}
use Rattle.rx_audit.proofs.Latest.{is_key_of}
use Rattle.std.proofs.Common.{rules}

-- tests ----------------------------------------------------------------------------------------------

pub terminal_is : (u t : Terminal) → same_terminal u t ≡ true → u ≡ t
terminal_is x0 x1 e = search (rules, eqb-true, false≢true)

pub terminal_self : (t : Terminal) → same_terminal t t ≡ true
terminal_self x0 = search (rules, eq-eqb)

-- what a list has ------------------------------------------------------------------------------------

-- an event at or after place k of which the test holds
pub record Found (q : Event → Bool) (k : ℕ) (h : List Event) : Type 0 where
  pub place : ℕ
  pub event : Event
  pub after : k ≤ place
  pub found : slice_get h place ≡ Some event
  pub holds : q event ≡ true

find_first : (q : Event → Bool) (h : List Event) → list_any q h ≡ true → Found q 0 h
find_first q [] e = absurd (false≢true e)
find_first q (x ∷ h) e = ⊎_elim (λ y. record { place = 0; event = x; after = omega arith; found = refl; holds = y })
    (λ n. let f = find_first q h (rw n at e) in record { place = suc f.place; event = f.event; after = omega arith; found = f.found; holds = f.holds })
    (cases_Bool (q x))

pub find_after : (q : Event → Bool) (k : ℕ) (h : List Event) → list_any q (drop k h) ≡ true → Found q k h
find_after q zero h e = find_first q h e
find_after q (suc k) [] e = absurd (false≢true e)
find_after q (suc k) (x ∷ h) e = let f = find_after q k h e in
    record { place = suc f.place; event = f.event; after = (let a = f.after in omega arith); found = f.found; holds = f.holds }

pub any_after : (q : Event → Bool) (k i : ℕ) (h : List Event) (e : Event) → k ≤ i → slice_get h i ≡ Some e → q e ≡ true → list_any q (drop k h) ≡ true
any_after q zero i h e l at_i holds = any_passes_from_place q h i e at_i holds
any_after q (suc k) i [] e l at_i holds = absurd (none-some e at_i)
any_after q (suc k) zero (x ∷ h) e l at_i holds = absurd (omega arith)
any_after q (suc k) (suc i) (x ∷ h) e l at_i holds = any_after q k i h e (omega arith) at_i holds

-- a number of a range of which the test holds
pub record FoundNumber (q : ℕ → Bool) (n : ℕ) : Type 0 where
  pub number : ℕ
  pub within : number < n
  pub holds : q number ≡ true

find_from : (q : ℕ → Bool) (a n : ℕ) → list_any q (range_with_len a n) ≡ true → FoundNumber q (a + n)
find_from q a zero e = absurd (false≢true e)
find_from q a (suc n) e = ⊎_elim (λ y. record { number = a; within = omega arith; holds = y })
    (λ other. let f = find_from q (a + 1) n (rw other at e) in record { number = f.number; within = (let w = f.within in omega arith); holds = f.holds })
    (cases_Bool (q a))

pub find_number : (q : ℕ → Bool) (n : ℕ) → list_any q (range_with_len 0 n) ≡ true → FoundNumber q n
find_number q n e = let f = find_from q 0 n e in record { number = f.number; within = (let w = f.within in omega arith); holds = f.holds }

-- ends -----------------------------------------------------------------------------------------------

is_subscribed : (e : Event) (g : ℕ) → is_subscriber_of g e ≡ true → hub_subscribed e ≡ Some g
is_subscribed x0 g s = search (rules, eqb-true, false≢true)

same_connected : (e : Event) (g : ℕ) → names_number (hub_connected e) g ≡ is_connect_of g e
same_connected x0 g = search rules

pub same_subscribed : (e : Event) (g : ℕ) → names_number (hub_subscribed e) g ≡ is_subscriber_of g e
same_subscribed x0 g = search rules

pub subscriber_at : (h : List Event) (s g : ℕ) → hub_subscribed_at h s ≡ Some g → at (is_subscriber_of g) h s ≡ true
subscriber_at h s g e = search (rules, option_and_then_some, slice_get, option_map_or, subscribed_event)

pub at_subscriber : (h : List Event) (s g : ℕ) → at (is_subscriber_of g) h s ≡ true → hub_subscribed_at h s ≡ Some g
at_subscriber h s g e = search (rules, slice_get, option_map_or, option_and_then, false≢true, is_subscribed)

pub connection_at : (h : List Event) (c g : ℕ) → hub_connected_at h c ≡ Some g → slice_get h c ≡ Some (Connect g)
connection_at h c g e = search (rules, option_and_then_some, slice_get, connected_event)

pub at_connection : (h : List Event) (c g : ℕ) → slice_get h c ≡ Some (Connect g) → hub_connected_at h c ≡ Some g
at_connection h c g e = ap (option_and_then hub_connected) e

-- sources --------------------------------------------------------------------------------------------

joined : (o p : Option ℕ) → joins o p ≡ true → (g : ℕ) × ((o ≡ Some g) × (p ≡ Some g))
joined x0 p e = search (rules, false≢true, is_key_of)

joins_of : (o p : Option ℕ) (g : ℕ) → o ≡ Some g → p ≡ Some g → joins o p ≡ true
joins_of o p g e f = rw (e, f) (eq-eqb g g refl)

ended_event : (h : List Event) (e : Event) (g : ℕ) → hub_ended h e ≡ Some g → (c : ℕ) × (t : Terminal) × (e ≡ End c t) × (hub_connected_at h c ≡ Some g)
ended_event h x1 g named = search (rules, none-some)

cut_at : (h : List Event) (s i : ℕ) (e : Event) → s < i → slice_get h i ≡ Some e → ends_source h s e ≡ true → (t : Terminal) × SourceEnded h s t
cut_at h s i e l at_i holds =
    let j = joined (hub_subscribed_at h s) (hub_ended h e) holds in
    let f = ended_event h e j.0 j.1.1 in (
      f.1,
      record {
        hub = j.0;
        connection = f.0;
        place = i;
        subscribes = subscriber_at h s j.0 j.1.0;
        connects = connection_at h f.0 j.0 f.3;
        later = l;
        ended = at_i ∙ ap Some f.2;
      },
    )

pub cut_ended : (h : List Event) (s : ℕ) → is_disconnected h s ≡ true → (t : Terminal) × SourceEnded h s t
unfolding is_disconnected
cut_ended h s e = let f = find_after (ends_source h s) (suc s) h e in cut_at h s f.place f.event f.after f.found f.holds

pub is_cut_of : (h : List Event) (s : ℕ) (t : Terminal) → SourceEnded h s t → is_disconnected h s ≡ true
unfolding is_disconnected
is_cut_of h s t d = search (rules, any_after, joins_of, at_subscriber, at_connection)

-- keys of open nodes ---------------------------------------------------------------------------------

pub filter_none : {X : Type 0} (q : X → Bool) (xs : List X) → list_any q xs ≡ false → filter q xs ≡ []
filter_none q [] e = refl
filter_none q (x ∷ xs) e = let w = or_parts (q x) (list_any q xs) e in rw w.0 (filter_none q xs w.1)

no_cons : {X : Type 0} (x : X) (xs : List X) → x ∷ xs ≡ [] → ⊥
no_cons x xs e = cc

pub none_filtered : {X : Type 0} (q : X → Bool) (xs : List X) → filter q xs ≡ [] → list_any q xs ≡ false
none_filtered q [] e = refl
none_filtered q (x ∷ xs) e = search (rules, cases_Bool, filter, list_any, no_cons, none_filtered q xs)

pub guarded : (key : Event → Option ℕ) (test : ℕ → Event → Bool) (g : ℕ) → ((e : Event) → names_number (key e) g ≡ test g e)
    → (b : Bool) (o : Option Event) → names_number (cond b (option_and_then key o) None) g ≡ (option_map_or (test g) o false && b)
guarded key test g same x4 x5 = search (rules, and_true, and_false)

pub subscribed_key : (h : List Event) (g : ℕ) → any_has_key (open_subscribed h) h g ≡ list_any (λ n. at (is_subscriber_of g) h n && is_open h n) (places h)
subscribed_key h g = search (rules, list_any-same, guarded, same_subscribed, slice_get)

pub connected_key : (h : List Event) (g : ℕ) → any_has_key (open_connected h) h g ≡ list_any (λ n. at (is_connect_of g) h n && is_open h n) (places h)
connected_key h g = search (rules, list_any-same, guarded, same_connected, slice_get)
