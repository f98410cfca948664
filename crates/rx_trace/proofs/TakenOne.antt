-- Events and notes from a place on, one more at a time; and which resources an event hands out.
use Rattle.rx_trace.proofs.Common.{◌≡◌, ◌∙◌, sym, ◌++◌, ap, List, Some, None, [], ℕ, ◌∷◌, ◌+◌, ◌<◌, ◌≤◌, ◌⊎◌, true, false, ◌||◌, ◌&&◌, length, take, drop, inl, inr}
use Rattle.rx_trace.proofs.Common.{subst, slice_get, get_or, arith, nothing_kept, Event, Take, take_all, drop_all, drop-append-le, length-take, none-some, false≢true}
use Rattle.rx_trace.proofs.Common.{list_any, list_any-append, is_take_of, is_taken, at, at_within, makes_resource, at-append, IsLawful, MayFollow, is_waiting}
use Rattle.rx_trace.proofs.Common.{take_next, by_events, may_take, waiting_parts, slice_get_within, slice_get_cases, eqb-true, cases_Bool, or_false, and_false, shown_nothing}
use Rattle.rx_trace.proofs.Common.{append_assoc, append-nil, map, map-append, filter_map, filter_map-append, Binding, taken_by, resource_told, HandedOut, AreHandedOut, rules}
use Rattle.rx_trace.proofs.Common.{State, Mail, Option, notes, is_some}
use Rattle.rx_event.specs.Kept.{Kept, event_since}
use Rattle.std.proofs.lemmas.Bool.{ltb-true}
use Rattle.std.specs.Prelude.{nat_lt, if◌then◌else◌}

-- those so far, and one more
pub since_first : {X : Type 0} (all : List X) (n : ℕ) → [] ≡ drop n (take n all)
since_first all n = sym (drop_all n (take n all) (let l = length-take n all in omega arith))

pub since_next : {X : Type 0} (all : List X) (n m : ℕ) (x : X) → n ≤ m → slice_get all m ≡ Some x
    → drop n (take (m + 1) all) ≡ drop n (take m all) ++ x ∷ []
since_next all n m x begun found = ap (drop n) (take_next all m x found) ∙ drop-append-le n (take m all) (x ∷ [])
    (let l = length-take m all in let w = slice_get_within all m x found in omega arith)

-- all of them
pub since_all : {X : Type 0} (all : List X) (n m : ℕ) → slice_get all m ≡ None → drop n (take m all) ≡ drop n all
since_all all n m missing = ap (drop n) (take_all m all (past (slice_get_cases all m))) where
  past : (slice_get all m ≡ slice_get all m) × (((x : _) × (m < length all) × (slice_get all m ≡ Some x) × (get_or all m x ≡ x))
      ⊎ ((length all ≤ m) × (slice_get all m ≡ None))) → length all ≤ m
  past (same, inl (x, within, found, got)) = absurd (none-some x (sym missing ∙ found))
  past (same, inr (over, none)) = over

-- what a step handed out was accepted before
made_before : (h : List Event) → IsLawful nothing_kept h → (r : ℕ) → list_any (is_take_of r) h ≡ true → at makes_resource h r ≡ true
made_before = by_events nothing_kept (λ h. (r : ℕ) → list_any (is_take_of r) h ≡ true → at makes_resource h r ≡ true)
    (λ started r is. absurd (false≢true (sym (ap (list_any (is_take_of r)) shown_nothing) ∙ is))) one_more
  where
    by_event : (h : List Event) (e : Event) → MayFollow nothing_kept h e → (r : ℕ) → is_take_of r e ≡ true → is_waiting h r ≡ true
    by_event h (Take q) next r is = subst (λ n. is_waiting h n ≡ true) (eqb-true q r is) (may_take nothing_kept next)
    by_event h _ next r is = absurd (false≢true is)

    still : (h : List Event) (e : Event) (r : ℕ) → at makes_resource h r ≡ true → at makes_resource (h ++ e ∷ []) r ≡ true
    still h e r made = at-append makes_resource h (e ∷ []) r (at_within makes_resource h r made) ∙ made

    one_more : (h : List Event) (e : Event) → IsLawful nothing_kept h → MayFollow nothing_kept h e
        → ((r : ℕ) → list_any (is_take_of r) h ≡ true → at makes_resource h r ≡ true)
        → (r : ℕ) → list_any (is_take_of r) (h ++ e ∷ []) ≡ true → at makes_resource (h ++ e ∷ []) r ≡ true
    one_more h e law next before r is = by_test (cases_Bool (list_any (is_take_of r) h)) where
      by_test : (list_any (is_take_of r) h ≡ true) ⊎ (list_any (is_take_of r) h ≡ false) → at makes_resource (h ++ e ∷ []) r ≡ true
      by_test (inl earlier) = still h e r (before r earlier)
      by_test (inr none) = still h e r (waiting_parts h r (by_event h e next r here)).0 where
        here : is_take_of r e ≡ true
        here = sym (or_false (is_take_of r e)) ∙ sym (ap (λ b. b || (is_take_of r e || false)) none) ∙ sym (list_any-append (is_take_of r) h (e ∷ [])) ∙ is

pub taken_is : (h : List Event) → IsLawful nothing_kept h → (r : ℕ) → is_taken h r ≡ list_any (is_take_of r) h
unfolding is_taken
taken_is h law r = by_test (cases_Bool (list_any (is_take_of r) h)) where
  by_test : (list_any (is_take_of r) h ≡ true) ⊎ (list_any (is_take_of r) h ≡ false)
      → (at makes_resource h r && list_any (is_take_of r) h) ≡ list_any (is_take_of r) h
  by_test (inl is) = ap (λ b. b && list_any (is_take_of r) h) (made_before h law r is)
  by_test (inr none) = ap (λ b. at makes_resource h r && b) none ∙ and_false (at makes_resource h r) ∙ sym none

-- a list of texts, with that of one more
pub texts_next : {X : Type 0} (f : X → List ℕ) (all : List X) (n m : ℕ) (x : X) → n ≤ m → slice_get all m ≡ Some x → (texts longer : List (List ℕ))
    → texts ≡ map f (drop n (take m all)) → longer ≡ texts ++ f x ∷ [] → longer ≡ map f (drop n (take (m + 1) all))
texts_next f all n m x begun found texts longer before here =
    here ∙ ap (λ l. l ++ f x ∷ []) before ∙ sym (ap (map f) (since_next all n m x begun found) ∙ map-append f (drop n (take m all)) (x ∷ []))

-- a book's event is one of its history
pub event_there : (base : Kept) (h : List Event) (n : ℕ) (e : Event) → Some e ≡ event_since base h n → slice_get h n ≡ Some e
event_there base h n e found = search (rules, nat_lt, slice_get, none-some)

-- from the base on, no event is missing but those that did not happen yet
pub no_event : (base : Kept) (h : List Event) (n : ℕ) → base.at_length ≤ n → None ≡ event_since base h n → slice_get h n ≡ None
no_event base h n since missing = by_test (cases_Bool (nat_lt n base.at_length)) where
  by_test : (nat_lt n base.at_length ≡ true) ⊎ (nat_lt n base.at_length ≡ false) → slice_get h n ≡ None
  by_test (inl less) = absurd (let l = ltb-true n base.at_length less in omega arith)
  by_test (inr past) = sym (ap (λ b. if b then None else slice_get h n) past) ∙ sym missing

-- the resources that events handed out, with that of one more
module _ (all : List Event) (n m : ℕ) (e : Event) (begun : n ≤ m) (found : slice_get all m ≡ Some e) where
  pub told_next : (resources : List Binding) (texts longer : List (List ℕ))
      → texts ≡ map (resource_told resources) (filter_map taken_by (drop n (take m all)))
      → longer ≡ texts ++ map (resource_told resources) (filter_map taken_by (e ∷ []))
      → longer ≡ map (resource_told resources) (filter_map taken_by (drop n (take (m + 1) all)))
  told_next resources texts longer before here = here ∙ ap (λ l. l ++ map (resource_told resources) (filter_map taken_by (e ∷ []))) before
      ∙ sym (ap (λ l. map (resource_told resources) (filter_map taken_by l)) (since_next all n m e begun found)
      ∙ ap (map (resource_told resources)) (filter_map-append taken_by (drop n (take m all)) (e ∷ []))
      ∙ map-append (resource_told resources) (filter_map taken_by (drop n (take m all))) (filter_map taken_by (e ∷ [])))

  pub handed_next : (t : HandedOut) (h : List Event) → AreHandedOut t ((h ++ drop n (take m all)) ++ e ∷ []) → AreHandedOut t (h ++ drop n (take (m + 1) all))
  handed_next t h = subst (AreHandedOut t) (append_assoc h (drop n (take m all)) (e ∷ []) ∙ ap (λ l. h ++ l) (sym (since_next all n m e begun found)))

pub handed_first : (t : HandedOut) (all h : List Event) (n : ℕ) → AreHandedOut t h → AreHandedOut t (h ++ drop n (take n all))
handed_first t all h n = subst (AreHandedOut t) (sym (append-nil h) ∙ ap (λ l. h ++ l) (since_first all n))

-- all were, where there is no further
pub all_given : {X : Type 0} (all : List X) (n : ℕ) → n ≤ length all → slice_get all n ≡ None → n ≡ length all
all_given all n within missing = over (slice_get_cases all n) where
  over : (slice_get all n ≡ slice_get all n) × (((x : _) × (n < length all) × (slice_get all n ≡ Some x) × (get_or all n x ≡ x))
      ⊎ ((length all ≤ n) × (slice_get all n ≡ None))) → n ≡ length all
  over (same, inl (x, inside, found, got)) = absurd (none-some x (sym missing ∙ found))
  over (same, inr (past, none)) = omega arith

-- a note that was asked for, by what the book was first
module _ (first now next : State) (asked : Option Mail) (going : now ≡ record first { given = now.given })
    (handed : next ≡ record now { given = if is_some asked then now.given + 1 else now.given })
    (note : asked ≡ slice_get (notes now.history) now.given) where
  first_note : asked ≡ slice_get (notes first.history) now.given
  first_note = note ∙ ap (λ (s : State). slice_get (notes s.history) now.given) going

  pub still : next ≡ record first { given = next.given }
  still = handed ∙ ap (λ (s : State). record s { given = if is_some asked then now.given + 1 else now.given }) going
      ∙ ap (λ n. record first { given = n }) (sym (ap (λ (s : State). s.given) handed))

  pub one_more_given : (m : Mail) → asked ≡ Some m → next.given ≡ now.given + 1
  one_more_given m is = ap (λ (s : State). s.given) handed ∙ ap (λ o. if is_some o then now.given + 1 else now.given) is

  pub note_there : (m : Mail) → asked ≡ Some m → slice_get (notes first.history) now.given ≡ Some m
  note_there m is = sym first_note ∙ is

  pub none_more_given : asked ≡ None → next.given ≡ now.given
  none_more_given is = ap (λ (s : State). s.given) handed ∙ ap (λ o. if is_some o then now.given + 1 else now.given) is

  pub no_note : asked ≡ None → slice_get (notes first.history) now.given ≡ None
  no_note is = sym first_note ∙ is
