-- Which nodes are open after one more event.
use Rattle.rx_event.proofs.Laws.Common.{◌≡◌, ℕ, zero, suc, ◌<◌, ◌≤◌, Bool, true, false, List, [], ◌∷◌, ◌++◌, length, drop, Some, refl, sym, ap}
use Rattle.rx_event.proofs.Laws.Common.{◌∙◌, arith, inl, inr, ◌⊎◌, nat_lt, length-append, append-nil, append_assoc, not, ◌&&◌, ◌||◌, list_any, AllByRecursion}
use Rattle.rx_event.proofs.Laws.Common.{option_and_then, option_map_or, cases_Bool, cases_lt, cases_order, lt-ltb, and_parts, both_ways, slice_get_past}
use Rattle.rx_event.proofs.Laws.Common.{Terminal, Kind, Inner, Event, Open, End, Close, makes_node, parent_named, is_switch, is_inner_of, at, parent, if_less}
use Rattle.rx_event.proofs.Laws.Common.{ancestors, shuts, is_shut, is_open, is_within, and_false, and_true, or_false, and_not_or, and_same, list_all}
use Rattle.rx_event.proofs.Laws.Common.{ltb-true, le-ltb, cond_some, list_any-append, is_switched_inner}
use Rattle.std.proofs.lemmas.Option.{option_and_then_some}
use Rattle.std.proofs.lemmas.List.{drop-append-le}
use Rattle.rx_event.specs.Tree.{is_standing}
use Rattle.rx_event.proofs.Laws.Places.{slice_get_last, at-append}
use Rattle.rx_event.proofs.Laws.Parents.{parent-lt, ancestors_step, ancestors-append, ancestors-le, option_map_or-same}
use Rattle.std.proofs.Common.{rules}

-- openness ----------------------------------------------------------------------------------------

-- two tests that agree at each element
pub list_any-same : {X : Type 0} (p q : X → Bool) → ((x : X) → p x ≡ q x) → (xs : List X) → list_any p xs ≡ list_any q xs
list_any-same p q same [] = refl
list_any-same p q same (x ∷ xs) = rw (same x, list_any-same p q same xs) refl

-- an older node is shut if it was, or if the new event shuts it
pub is_shut-push : (h : List Event) (e : Event) (n : ℕ) → n < length h → is_shut (h ++ e ∷ []) n ≡ (is_shut h n || shuts h n e)
unfolding is_shut
is_shut-push h e n l = search (rules, drop-append-le, list_any-same, cases_Bool, ltb-true, at-append, drop, list_any-append, list_any, or_false)

-- the new node is not shut
pub is_shut_last : (h : List Event) (e : Event) → is_shut (h ++ e ∷ []) (length h) ≡ false
unfolding is_shut
is_shut_last h e = ap (list_any (shuts (h ++ e ∷ []) (length h))) (drop_all h e) where
  drop_all : (h : List Event) (e : Event) → drop (suc (length h)) (h ++ e ∷ []) ≡ []
  drop_all [] e = refl
  drop_all (x ∷ h) e = drop_all h e

list_all-same : {X : Type 0} (P : X → Type 0) (p q : X → Bool) → ((x : X) → P x → p x ≡ q x) → (xs : List X) → AllByRecursion P xs →
    list_all p xs ≡ list_all q xs
list_all-same P p q same [] a = refl
list_all-same P p q same (x ∷ xs) a = rw (same x a.0, list_all-same P p q same xs a.1) refl

list_all-and : {X : Type 0} (p q : X → Bool) (xs : List X) → list_all (λ x. p x && q x) xs ≡ (list_all p xs && list_all q xs)
list_all-and p q [] = refl
list_all-and p q (x ∷ xs) = rw (list_all-and p q xs) (search (rules, list_all))

standing-push : (h : List Event) (e : Event) (n : ℕ) → n < length h → is_standing (h ++ e ∷ []) n ≡ (is_standing h n && not (shuts h n e))
standing-push h e n l = search (rules, at-append, is_shut-push, and_not_or)

-- An older node is open if it was, and the new event shuts neither it nor a node above it.
pub is_open-push : (h : List Event) (e : Event) (n : ℕ) → n < length h →
    is_open (h ++ e ∷ []) n ≡ (is_open h n && list_all (λ a. not (shuts h a e)) (ancestors h n))
unfolding is_open
is_open-push h e n l = rw (
  ancestors-append h (e ∷ []) n l,
  list_all-same (λ a. a ≤ n) (is_standing (h ++ e ∷ [])) (λ a. is_standing h a && not (shuts h a e)) (λ a b. standing-push h e a (omega arith))
      (ancestors h n) (ancestors-le h n),
) (list_all-and (is_standing h) (λ a. not (shuts h a e)) (ancestors h n))

-- a node is open where it stands and its parent is open
pub is_open_step : (h : List Event) (n : ℕ) → is_open h n ≡ (is_standing h n && option_map_or (is_open h) (parent h n) true)
unfolding is_open
is_open_step h n = search (rules, ancestors_step, list_all, option_map_or)

-- the event shuts no node
abbrev pub shuts_none : Event → Bool
shuts_none (End n t) = false
shuts_none (Close n) = false
shuts_none (Open (Inner f) kind) = false
shuts_none _ = true

not_shut : (h : List Event) (n : ℕ) (e : Event) → shuts_none e ≡ true → shuts h n e ≡ false
not_shut h n x2 s = search rules

list_all_yes : {X : Type 0} (p : X → Bool) → ((x : X) → p x ≡ true) → (xs : List X) → list_all p xs ≡ true
list_all_yes p holds [] = refl
list_all_yes p holds (x ∷ xs) = rw (holds x) (list_all_yes p holds xs)

-- an item, an acceptance and the like leave each node as it was
pub is_open_kept : (h : List Event) (e : Event) (n : ℕ) → n < length h → shuts_none e ≡ true → is_open (h ++ e ∷ []) n ≡ is_open h n
is_open_kept h e n l s = search (rules, is_open-push, list_all_yes, not, not_shut, and_true)

-- the event takes away n, or a node above it
abbrev pub is_cut : List Event → Event → ℕ → Bool
is_cut h e n = list_any (λ a. shuts h a e) (ancestors h n)

-- what an event shuts it cuts
pub self_cut : (h : List Event) (e : Event) (n : ℕ) → shuts h n e ≡ true → is_cut h e n ≡ true
self_cut h e n s = rw (ancestors_step h n, s) refl

list_all-not : {X : Type 0} (p : X → Bool) (xs : List X) → list_all (λ x. not (p x)) xs ≡ not (list_any p xs)
list_all-not p [] = refl
list_all-not p (x ∷ xs) = rw (list_all-not p xs) (search (rules, list_any, not))

-- an older node is open if it was, and the new event does not cut it. (Cut by the end or the closing of c is what is within c.)
pub is_open_cut : (h : List Event) (e : Event) (n : ℕ) → n < length h → is_open (h ++ e ∷ []) n ≡ (is_open h n && not (is_cut h e n))
is_open_cut h e n l = is_open-push h e n l ∙ ap (λ b. is_open h n && b) (list_all-not (λ a. shuts h a e) (ancestors h n))

pub open_old : (h : List Event) (e : Event) (n : ℕ) → n < length h → is_open (h ++ e ∷ []) n ≡ true → is_open h n ≡ true
open_old h e n l o = (and_parts (is_open h n) (not (is_cut h e n)) (sym (is_open_cut h e n l) ∙ o)).0

-- an event that shuts no node cuts none
pub is_cut_none : (h : List Event) (e : Event) (n : ℕ) → shuts_none e ≡ true → is_cut h e n ≡ false
is_cut_none h e n s = none (ancestors h n) where
  none : (xs : List ℕ) → list_any (λ a. shuts h a e) xs ≡ false
  none [] = refl
  none (a ∷ xs) = rw (not_shut h a e s) (none xs)

-- beyond the end there is no node
pub is_open_past : (h : List Event) (n : ℕ) → length h ≤ n → is_open h n ≡ false
is_open_past h n l = is_open_step h n ∙ rw (slice_get_past h n l) refl

-- a new root is open, and a new node below an open node too, where it shuts none
pub is_open_last : (h : List Event) (e : Event) → shuts_none e ≡ true →
    is_open (h ++ e ∷ []) (length h) ≡ (makes_node e && option_map_or (is_open h) (option_and_then (if_less (length h)) (parent_named e)) true)
unfolding parent
is_open_last h e s =
    search (rules, is_open_step, length, is_shut_last, slice_get_last, and_same, option_map_or-same, option_and_then, is_open_kept, option_and_then_some, cond_some, nat_lt, ltb-true)

-- an open node is in the history
pub is_open_within : (h : List Event) (n : ℕ) → is_open h n ≡ true → n < length h
is_open_within h n o = search (rules, cases_lt, length, both_ways, is_open_past)

-- what is open after an event that makes no node was open before
pub open_before : (h : List Event) (e : Event) (p : ℕ) → makes_node e ≡ false → is_open (h ++ e ∷ []) p ≡ true → is_open h p ≡ true
open_before h e p no_node o = by_place (cases_order p (length h)) where
  by_place : (p ≡ length h) ⊎ ((p < length h) ⊎ (length h < p)) → is_open h p ≡ true
  by_place (inr (inl l)) = (and_parts _ _ (sym (is_open-push h e p l) ∙ o)).0
  by_place (inl same) =
      absurd (both_ways _ (is_open_step (h ++ e ∷ []) (length h) ∙ rw (slice_get_last h e, no_node) refl) (ap (is_open (h ++ e ∷ [])) (sym same) ∙ o))
  by_place (inr (inr g)) = let l = is_open_within (h ++ e ∷ []) p o in absurd (omega (arith, length-append {A = Event}))

-- an event that neither shuts nor makes a node leaves each number as it was
pub is_open_unchanged : (h : List Event) (e : Event) → shuts_none e ≡ true → makes_node e ≡ false → (n : ℕ) → is_open (h ++ e ∷ []) n ≡ is_open h n
is_open_unchanged h e s no_node n = by_place (cases_order n (length h)) where
  by_place : (n ≡ length h) ⊎ ((n < length h) ⊎ (length h < n)) → is_open (h ++ e ∷ []) n ≡ is_open h n
  by_place (inr (inl l)) = is_open_kept h e n l s
  by_place (inl same) =
      ap (is_open (h ++ e ∷ [])) same ∙ (is_open_step (h ++ e ∷ []) (length h) ∙ rw (slice_get_last h e, no_node) refl) ∙ sym (is_open_past h n (omega arith))
  by_place (inr (inr g)) = is_open_past (h ++ e ∷ []) n (omega (arith, length-append {A = Event})) ∙ sym (is_open_past h n (omega arith))

list_any_never : {X : Type 0} (P : X → Type 0) (p : X → Bool) → ((x : X) → P x → p x ≡ false) → (xs : List X) → AllByRecursion P xs → list_any p xs ≡ false
list_any_never P p never [] a = refl
list_any_never P p never (x ∷ xs) a = rw (never x a.0) (list_any_never P p never xs a.1)

-- the opening of an inner cuts nothing at or above its parent
pub is_cut_inner : (h : List Event) (f : ℕ) (kind : Kind) (n : ℕ) → n ≤ f → is_cut h (Open (Inner f) kind) n ≡ false
is_cut_inner h f kind n l = search (rules, list_any_never, nat_lt, ancestors-le, le-ltb)

-- nor does that of a FlatMap cut anything
pub is_cut_inner_flat : (h : List Event) (f : ℕ) (kind : Kind) → at is_switch h f ≡ false → (n : ℕ) → is_cut h (Open (Inner f) kind) n ≡ false
is_cut_inner_flat h f kind flat n = none (ancestors h n) where
  no_switch : (b c : Bool) → ((b && false) && c) ≡ false
  no_switch b c = grind arith

  none : (xs : List ℕ) → list_any (λ a. is_switched_inner h f a) xs ≡ false
  none [] = refl
  none (a ∷ xs) = rw (flat, no_switch (nat_lt f a) (at (is_inner_of f) h a)) (none xs)

-- a new node below an open one is open, where it does not cut it
pub is_open_made : (h : List Event) (e : Event) (p : ℕ) → makes_node e ≡ true → parent_named e ≡ Some p → is_open h p ≡ true → is_cut h e p ≡ false →
    is_open (h ++ e ∷ []) (length h) ≡ true
unfolding parent
is_open_made h e p node named o kept = search (rules, is_open_step, length, is_shut_last, slice_get_last, lt-ltb, is_open_cut, is_open_within)

-- an event that makes no node opens none
pub is_open_last_none : (h : List Event) (e : Event) → makes_node e ≡ false → is_open (h ++ e ∷ []) (length h) ≡ false
is_open_last_none h e no_node = is_open_step (h ++ e ∷ []) (length h) ∙ rw (slice_get_last h e, no_node) refl

-- the parent of an open node is open
pub parent_open : (h : List Event) (n p : ℕ) → is_open h n ≡ true → parent h n ≡ Some p → is_open h p ≡ true
parent_open h n p o below = search (rules, and_parts, is_open_step, option_map_or)

-- closed nodes ------------------------------------------------------------------------------------

-- a node whose parent is not open is not open
pub closed_below : (h : List Event) (n p : ℕ) → parent h n ≡ Some p → is_open h p ≡ false → is_open h n ≡ false
closed_below h n p below closed = search (rules, is_open_step, option_map_or, and_false)

-- what is not open stays so, whatever comes
pub stays_closed : (h : List Event) (e : Event) (n : ℕ) → n < length h → is_open h n ≡ false → is_open (h ++ e ∷ []) n ≡ false
stays_closed h e n l closed = is_open_cut h e n l ∙ ap (λ b. b && not (is_cut h e n)) closed

pub stays_closed_after : (h t : List Event) (n : ℕ) → n < length h → is_open h n ≡ false → is_open (h ++ t) n ≡ false
stays_closed_after h [] n l closed = rw (append-nil h) closed
stays_closed_after h (e ∷ t) n l closed =
    rw (← append_assoc h (e ∷ []) t) (stays_closed_after (h ++ e ∷ []) t n (omega (arith, length-append {A = Event})) (stays_closed h e n l closed))

-- what an end and a closing close ------------------------------------------------------------------

closed_outside : (h : List Event) (e : Event) (c : ℕ) → makes_node e ≡ false → ((n : ℕ) → is_cut h e n ≡ is_within h c n) → (n : ℕ) →
    is_open (h ++ e ∷ []) n ≡ (is_open h n && not (is_within h c n))
closed_outside h e c no_node cuts n = by_place (cases_order n (length h)) where
  gone : length h ≤ n → (is_open h n && not (is_within h c n)) ≡ false
  gone l = rw (is_open_past h n l) refl

  by_place : (n ≡ length h) ⊎ ((n < length h) ⊎ (length h < n)) → is_open (h ++ e ∷ []) n ≡ (is_open h n && not (is_within h c n))
  by_place (inr (inl l)) = is_open_cut h e n l ∙ ap (λ b. is_open h n && not b) (cuts n)
  by_place (inl same) = ap (is_open (h ++ e ∷ [])) same ∙ is_open_last_none h e no_node ∙ sym (gone (omega arith))
  by_place (inr (inr g)) = is_open_past (h ++ e ∷ []) n (omega (arith, length-append {A = Event})) ∙ sym (gone (omega arith))

-- after the end or the closing of c just what was open outside c is open
pub is_open_outside-end : (h : List Event) (c : ℕ) (t : Terminal) (n : ℕ) → is_open (h ++ End c t ∷ []) n ≡ (is_open h n && not (is_within h c n))
is_open_outside-end h c t = closed_outside h (End c t) c refl (λ n. refl)

pub is_open_outside-close : (h : List Event) (c : ℕ) (n : ℕ) → is_open (h ++ Close c ∷ []) n ≡ (is_open h n && not (is_within h c n))
is_open_outside-close h c = closed_outside h (Close c) c refl (λ n. refl)

-- all above an open node is open -------------------------------------------------------------------

open_above : (k : ℕ) (h : List Event) (n : ℕ) → n < k → is_open h n ≡ true → AllByRecursion (λ a. is_open h a ≡ true) (ancestors h n)
open_above zero h n l o = absurd (omega arith)
open_above (suc k) h n l o = search (rules, ancestors_step, AllByRecursion, option_map_or, parent-lt, parent_open, open_above k h)

pub ancestors_open : (h : List Event) (n : ℕ) → is_open h n ≡ true → AllByRecursion (λ a. is_open h a ≡ true) (ancestors h n)
ancestors_open h n o = open_above (suc n) h n (omega arith) o

-- an event that shuts nothing closes nothing
pub is_cut_never : (h : List Event) (e : Event) → ((m : ℕ) → shuts h m e ≡ false) → (n : ℕ) → is_cut h e n ≡ false
is_cut_never h e never n = none (ancestors h n) where
  none : (xs : List ℕ) → list_any (λ a. shuts h a e) xs ≡ false
  none [] = refl
  none (a ∷ xs) = rw (never a) (none xs)

pub is_open_uncut : (h : List Event) (e : Event) → ((m : ℕ) → shuts h m e ≡ false) → (n : ℕ) → n < length h → is_open (h ++ e ∷ []) n ≡ is_open h n
is_open_uncut h e never n l = search (rules, is_open_cut, not, is_cut_never, and_true)
