-- From the tests to the verdict.
use Rattle.rx_audit.proofs.Common.{◌≡◌, ℕ, ℤ, zero, suc, ◌+◌, ◌<◌, ◌≤◌, Bool, true, false, List, [], ◌∷◌, ◌++◌, length, take, Some, None, refl, sym, ap}
use Rattle.rx_audit.proofs.Common.{subst, ◌∙◌, arith, ◌==◌, slice_get, get_or, IsTrue, ◌↔◌, length-append, drop, take-append-drop, ◌&&◌, option_map_or}
use Rattle.rx_audit.proofs.Common.{and_parts, both_ways, false≢true, eqb-true, eq-eqb, nothing_kept, Place, Pass, Event, Open, Accept, Item, at, is_open}
use Rattle.rx_audit.proofs.Common.{IsForced, IsSettled, due, IsAllowed, accepted, IsLawful, MayFollow, same_Some, Nodes, IsFollowed, IsKnown}
use Rattle.rx_audit.proofs.Common.{AreListsFound, IsClimbed, IsReached, leaf_of, Visit, and_from}
use Rattle.rx_event.specs.Lawful.{forced, allowed, opened_with as accepted_with}
use Rattle.rx_event.proofs.Laws.Begin.{shown_nothing}
use Rattle.rx_event.proofs.Laws.Lawful.{IsLawful-push, FoundAt, in_base, since_base, found_at}
use Rattle.std.proofs.lemmas.List.{take_more, take_all}
use Rattle.rx_audit.specs.declared.found.Found.{Found}
use Rattle.rx_audit.specs.Found.{IsFoundHere}
use Rattle.rx_audit.specs.Standing.{IsAllFound}
use Rattle.rx_audit.specs.Verdict.{IsFoundUnlawful}
use Rattle.rx_audit.specs.Rules.{opens_pass, opened_with}
use Rattle.rx_event.specs.declared.refusal.Refusal.{Refusal}
use Rattle.rx_audit.proofs.Common.{none-some}
use Rattle.std.specs.Prelude.{is_none, Option}
use Rattle.rx_register.specs.CallBehind.{refusal_of, takes_waiting}
use Rattle.rx_register.proofs.Laws.AllowedWhereUnrefused.{allowed_unrefused}
use Rattle.std.proofs.Common.{rules}

-- callers ----------------------------------------------------------------------------------------------

-- what nothing refuses, and hands out what waits, is allowed
pub decided : (h : List Event) (e : Event) (why : Option Refusal) (b : Bool) → IsLawful nothing_kept h → IsSettled nothing_kept h →
    why ≡ refusal_of nothing_kept h e → b ≡ (is_none why && takes_waiting h e) → (IsTrue b) ↔ IsAllowed nothing_kept h e
decided h e why b law settled is says = (to, back) where
  none_is : (o : Option Refusal) → is_none o ≡ true → o ≡ None
  none_is None none = refl
  none_is (Some x) none = absurd (false≢true none)

  to : b ≡ true → IsAllowed nothing_kept h e
  to y =
      let parts : (is_none why ≡ true) × (takes_waiting h e ≡ true) = and_parts _ _ (sym says ∙ y) in
      (allowed_unrefused nothing_kept h e law settled).1 (sym is ∙ none_is why parts.0, parts.1)

  back : IsAllowed nothing_kept h e → b ≡ true
  back a =
      let w : (refusal_of nothing_kept h e ≡ None) × (takes_waiting h e ≡ true) = (allowed_unrefused nothing_kept h e law settled).0 a in
      says ∙ and_from _ _ (ap (λ o. is_none o) (is ∙ w.0)) w.1

pub none_climbs : (why : Option Refusal) (b c : Bool) (P : Type 0) → b ≡ (is_none why && c) → (why ≡ None → P) → b ≡ true → P
none_climbs None b c P says climbs y = climbs refl
none_climbs (Some x) b c P says climbs y = absurd (false≢true (sym says ∙ y))

-- what may follow ----------------------------------------------------------------------------------------

passes : (e : Event) → opens_pass e ≡ true → (place : Place) × (e ≡ Open place Pass)
passes x0 e = search (rules, false≢true)

pass_at : (h : List Event) (n : ℕ) → at opens_pass h n ≡ true → (place : Place) × (slice_get h n ≡ Some (Open place Pass))
pass_at h n e = search (rules, slice_get, option_map_or, false≢true, passes)

opened_first : (h : List Event) (e : Event) → opened_with h e ≡ true → MayFollow nothing_kept h e
opened_first h (Accept n tag) e =
    let a = and_parts (at opens_pass h n && (length h == n + 1)) (is_open h n) e in
    let b = and_parts (at opens_pass h n) (length h == n + 1) a.0 in
    let w = pass_at h n b.0 in
    accepted_with {place = w.0} w.1 (eqb-true (length h) (n + 1) b.1) a.1
opened_first h (Open place kind) e = absurd (false≢true e)
opened_first h _ e = absurd (false≢true e)

first_opened : (h : List Event) (n : ℕ) (place : Place) → slice_get h n ≡ Some (Open place Pass)
    → length h ≡ n + 1 → is_open h n ≡ true → (at opens_pass h n && (length h == n + 1) && is_open h n) ≡ true
first_opened h n place at_n len o = search (rules, and_from, length, option_map_or, eq-eqb)

-- where they have nothing left to do, just what callers may do may follow
pub settled_answer : (h : List Event) (e : Event) (b : Bool) → IsSettled nothing_kept h → (IsTrue b) ↔ IsAllowed nothing_kept h e
    → (IsTrue b) ↔ MayFollow nothing_kept h e
settled_answer h e b settled w = (λ t. allowed settled (w.0 t), λ m. w.1 (by_way e m)) where
  by_way : (e : Event) → MayFollow nothing_kept h e → IsAllowed nothing_kept h e
  by_way e (forced f) = absurd (settled.none e f)
  by_way e (allowed s a) = a
  by_way (Accept k tag) (accepted_with at_k len o) = accepted o

-- event by event -----------------------------------------------------------------------------------------

get_at : (h : List Event) (i : ℕ) (d : Event) → i < length h → slice_get h i ≡ Some (get_or h i d)
get_at [] i d l = absurd (omega arith)
get_at (x ∷ h) zero d l = refl
get_at (x ∷ h) (suc i) d l = get_at h i d (omega arith)

pub unlawful_here : (h : List Event) (i : ℕ) (d : Event) (b : Bool) → i < length h → IsLawful nothing_kept (take i h)
    → b ≡ false → (IsTrue b) ↔ MayFollow nothing_kept (take i h) (get_or h i d) → IsFoundUnlawful h i
unlawful_here h i d b l law refused w = search (rules, get_or, get_at, both_ways)

pub lawful_more : (h : List Event) (i : ℕ) (d : Event) (b : Bool) → i < length h → IsLawful nothing_kept (take i h)
    → b ≡ true → (IsTrue b) ↔ MayFollow nothing_kept (take i h) (get_or h i d) → IsLawful nothing_kept (take (i + 1) h)
lawful_more h i d b l law follows w = rw (take_more h i d l) (IsLawful-push nothing_kept (take i h) (get_or h i d) law (w.0 follows))

pub found_more : (h : List Event) (i : ℕ) (d : Event) (size : ℕ) (found : Found) → i < length h → size ≡ length h
    → AreListsFound (take i h ++ get_or h i d ∷ []) size found → AreListsFound (take (i + 1) h) (length h) found
found_more h i d size found l same f = rw (take_more h i d l, ← same) f

-- what is climbed for is an item
pub item_climbs : (h : List Event) (e : Event) (l : ℕ) (v : ℤ) (log : List Visit) → e ≡ Item l v → IsReached h l log → IsClimbed h e log
item_climbs h e l v log is r m w at = subst (λ (k : ℕ). IsReached h k log) (same_Some l m (ap leaf_of (sym is ∙ at))) r

pub unsettled_climbs : (h : List Event) (e : Event) (log : List Visit) → ¬ IsSettled nothing_kept h → MayFollow nothing_kept h e → IsClimbed h e log
unsettled_climbs h e log unsettled m l v is = by_way l v (rw is at m) where
  by_way : (l : ℕ) (v : ℤ) → MayFollow nothing_kept h (Item l v) → IsReached h l log
  by_way l v (forced (due n d)) = elim d [ ]
  by_way l v (allowed s a) = absurd (unsettled s)

pub followed_more : (h : List Event) (i : ℕ) (d : Event) (size : ℕ) (nodes : Nodes) → i < length h → size ≡ length h
    → IsFollowed (take i h ++ get_or h i d ∷ []) size nodes → IsFollowed (take (i + 1) h) (length h) nodes
followed_more h i d size nodes l same f = rw (take_more h i d l, ← same) f

-- where operators have something left to do, just what is forced and the acceptance after an opening may follow
pub forced_follows : (h : List Event) (e : Event) → IsForced nothing_kept h e → (IsTrue true) ↔ MayFollow nothing_kept h e
forced_follows h e f = (λ t. forced f, λ m. refl)

pub unforced_follows : (h : List Event) (e : Event) (b : Bool) → (IsForced nothing_kept h e → ⊥) → ¬ IsSettled nothing_kept h
    → b ≡ opened_with h e → (IsTrue b) ↔ MayFollow nothing_kept h e
unforced_follows h e b no_force unsettled is = (λ t. opened_first h e (sym is ∙ t), λ m. is ∙ by_way e no_force m) where
  by_way : (e : Event) → (IsForced nothing_kept h e → ⊥) → MayFollow nothing_kept h e → opened_with h e ≡ true
  by_way e n (forced f) = absurd (n f)
  by_way e n (allowed s a) = absurd (unsettled s)
  by_way (Accept k tag) n (accepted_with {place = place} at_k len o) = first_opened h k place at_k len o

length-take-most : (i : ℕ) (h : List Event) → length (take i h) ≤ length h
length-take-most i h = let s = length-append (take i h) (drop i h) in let t = ap length (take-append-drop i h) in omega arith

-- what was found of the events so far, and what is known of them
pub found_from : (h : List Event) (i : ℕ) (found : Found) → AreListsFound (take i h) (length h) found → IsFoundHere (take i h) found
found_from h i found f = record { room = (let l = length-take-most i h in let s = f.live_size in omega arith); is = rw f.live_size f }

pub known_from : (h : List Event) (i : ℕ) (found : Found) (nodes : Nodes) → IsLawful nothing_kept (take i h) → AreListsFound (take i h) (length h) found
    → IsFollowed (take i h) (length h) nodes → IsKnown (take i h) found.live.items nodes
known_from h i found nodes law f w =
    record { lawful = law; tied = f.live; room = (found_from h i found f).room; followed = rw f.live_size w }

-- which is all of them at the end
pub all_found : (h : List Event) (i : ℕ) (found : Found) (nodes : Nodes) → length h ≤ i → IsLawful nothing_kept (take i h)
    → AreListsFound (take i h) (length h) found → IsFollowed (take i h) (length h) nodes → IsAllFound h found nodes
all_found h i found nodes over law f w = subst (λ (k : List Event). IsAllFound k found nodes) (take_all i h over)
    (record { is = found_from h i found f; known = known_from h i found nodes law f w })

-- a list with an event that may not follow those before it is not lawful
pub not_lawful : (h : List Event) (i : ℕ) → IsFoundUnlawful h i → IsLawful nothing_kept h → ⊥
not_lawful h i u law = by_found (found_at nothing_kept h law i u.event u.found) where
  by_found : FoundAt nothing_kept h i u.event → ⊥
  by_found (in_base found same) = none-some u.event (sym (ap (λ (k : List Event). slice_get k i) shown_nothing) ∙ found)
  by_found (since_base next) = u.breaks next
