-- What is taken from a book one by one: events from a place on, and notes.
use Rattle.rx_script.proofs.Common.{◌≡◌, ◌<◌, ◌≤◌, ◌+◌, ◌++◌, ◌∷◌, [], ℕ, zero, suc, List, true, false, length, take, drop, refl, sym, ap, subst, ◌∙◌}
use Rattle.rx_script.proofs.Common.{append_assoc, append-nil, length-append, length-take, arith, inl, inr, ◌⊎◌, Some, None, slice_get, nat_eq, nat_lt}
use Rattle.rx_script.proofs.Common.{option_map_or, get, take_more, cases_Bool, ltb-true, none-some, slice_get_past, Event, Mail, Kept, nothing_kept, IsLawful}
use Rattle.rx_script.proofs.Common.{by_pushes, State, IsPromised, Tallies, AreCountsOf, AreNotesOf, GoesOnFromFront, slice_get_within}
use Rattle.std.proofs.Math.Seq.{take-append_seam}
use Rattle.std.specs.Prelude.{if◌then◌else◌}
use Rattle.std.proofs.lemmas.List.{take_all, take-append-le, drop-append-le, drop_all}
use Rattle.std.proofs.lemmas.Bool.{cases_lt}
use Rattle.std.proofs.lemmas.Option.{get_or_from_slice_get}
use Rattle.rx_event.specs.Kept.{event_since}
use Rattle.rx_script.proofs.LeasesOut.{front_lawful}
use Rattle.rx_script.specs.Repeated.{one_by_one}
use Rattle.std.proofs.Common.{rules}

slice_get-past : {A : Type 0} (xs : List A) (n : ℕ) → slice_get xs n ≡ None → length xs ≤ n
slice_get-past [] n missing = omega arith
slice_get-past (y ∷ ys) zero missing = absurd (cc)
slice_get-past (y ∷ ys) (suc n) missing = let rest = slice_get-past ys n missing in omega arith

pub take_next : {A : Type 0} (xs : List A) (n : ℕ) (x : A) → slice_get xs n ≡ Some x → take (n + 1) xs ≡ take n xs ++ x ∷ []
take_next xs n x found = take_more xs n x (slice_get_within xs n x found) ∙ ap (λ y. take n xs ++ y ∷ []) (get_or_from_slice_get xs n x x found)

-- a front of a list that was copied, and one more
pub front_next : {A : Type 0} (xs front pushed : List A) (n : ℕ) (x : A) → front ≡ take n xs → Some x ≡ slice_get xs n → pushed ≡ front ++ x ∷ []
    → pushed ≡ take (n + 1) xs
front_next xs front pushed n x is found is_pushed = is_pushed ∙ ap (λ l. l ++ x ∷ []) is ∙ sym (take_next xs n x (sym found))

pub front_all : {A : Type 0} (xs front : List A) (n : ℕ) → front ≡ take n xs → None ≡ slice_get xs n → front ≡ xs
front_all xs front n is missing = is ∙ take_all n xs (slice_get-past xs n (sym missing))

-- where the base is empty each event is there
pub from_start : (base : Kept) (h : List Event) (n : ℕ) → base ≡ nothing_kept → event_since base h n ≡ slice_get h n
from_start base h n none = ap (λ (b : Kept). event_since b h n) none ∙ ap (λ b. if b then None else slice_get h n) (by_test (cases_Bool (nat_lt n 0))) where
  by_test : (nat_lt n 0 ≡ true) ⊎ (nat_lt n 0 ≡ false) → nat_lt n 0 ≡ false
  by_test (inl less) = absurd (let l = ltb-true n 0 less in omega arith)
  by_test (inr past) = past

pub event_within : (base : Kept) (h : List Event) (n : ℕ) (e : Event) → Some e ≡ event_since base h n → n < length h
event_within base h n e found = search (rules, nat_lt, slice_get, length, none-some, slice_get_within)

event_there : (base : Kept) (h : List Event) (n : ℕ) (e : Event) → Some e ≡ event_since base h n → slice_get h n ≡ Some e
event_there base h n e found = search (rules, nat_lt, slice_get, none-some)

-- from the base on, no event is missing but those that did not happen yet
no_event : (base : Kept) (h : List Event) (n : ℕ) → base.at_length ≤ n → None ≡ event_since base h n → slice_get h n ≡ None
no_event base h n since missing = by_test (cases_Bool (nat_lt n base.at_length)) where
  by_test : (nat_lt n base.at_length ≡ true) ⊎ (nat_lt n base.at_length ≡ false) → slice_get h n ≡ None
  by_test (inl less) = absurd (let l = ltb-true n base.at_length less in omega arith)
  by_test (inr past) = sym (ap (λ b. if b then None else slice_get h n) past) ∙ sym missing

-- a book has far fewer events than a number can count
pub few_events : (s : State) (n : ℕ) (e : Event) → IsPromised s → Some e ≡ event_since s.base s.history n → n < 18446744073709551615
few_events s n e kept found = search (rules, event_within)

-- events ------------------------------------------------------------------------------------------------

-- past a front the whole history has what is stored
same_past : {A : Type 0} (front xs : List A) (n : ℕ) → length front ≤ n → slice_get (front ++ drop (length front) xs) n ≡ slice_get xs n
same_past [] xs n past = refl
same_past (x ∷ front) [] n past = ap (λ l. slice_get l n) (append-nil (x ∷ front)) ∙ slice_get_past (x ∷ front) n past
same_past (x ∷ front) (y ∷ xs) zero past = absurd (omega arith)
same_past (x ∷ front) (y ∷ xs) (suc n) past = same_past front xs n (omega arith)

pub front_is : (front h : List Event) (s : State) → GoesOnFromFront front h s → take (length front) h ≡ front
front_is front h s goes = ap (take (length front)) goes.rest ∙ take-append_seam front (drop (length front) s.history)

lawful_take : (h : List Event) → IsLawful nothing_kept h → (n : ℕ) → IsLawful nothing_kept (take n h)
lawful_take = by_pushes (λ h. IsLawful nothing_kept h → (n : ℕ) → IsLawful nothing_kept (take n h))
    (λ law n. subst (IsLawful nothing_kept) (sym (take_all n [] (omega arith))) law) (λ h e before law n. by_length h e before law n (cases_lt (length h) n))
  where
    by_length : (h : List Event) (e : Event) → (IsLawful nothing_kept h → (n : ℕ) → IsLawful nothing_kept (take n h)) → IsLawful nothing_kept (h ++ e ∷ [])
        → (n : ℕ) → (length h < n) ⊎ (n ≤ length h) → IsLawful nothing_kept (take n (h ++ e ∷ []))
    by_length h e before law n (inl past) = subst (IsLawful nothing_kept) (sym (take_all n (h ++ e ∷ []) (omega (arith, length-append h (e ∷ []))))) law
    by_length h e before law n (inr within) = subst (IsLawful nothing_kept) (sym (take-append-le n h (e ∷ []) within)) (before (front_lawful h e law) n)

-- so many events of the whole history were counted, among them the front
pub record Counted (front h : List Event) (t : Tallies) : Type 0 where
  pub counts : AreCountsOf (take t.events h) t
  pub past : length front ≤ t.events

pub counted_first : (front h : List Event) (s : State) (t : Tallies) → GoesOnFromFront front h s → AreCountsOf front t → Counted front h t
counted_first front h s t goes counts = record {
  counts = subst (λ k. AreCountsOf k t) (sym (ap (λ n. take n h) counts.events ∙ front_is front h s goes)) counts;
  past = let e = counts.events in omega arith;
}

pub counted_next : {front h : List Event} {s : State} {old : Tallies} (new : Tallies) (e : Event) → GoesOnFromFront front h s → IsLawful nothing_kept h →
    Counted front h old → Some e ≡ event_since s.base s.history old.events → new.events ≡ old.events + 1
    → ((k : List Event) → IsLawful nothing_kept (k ++ e ∷ []) → AreCountsOf k old → AreCountsOf (k ++ e ∷ []) new) → Counted front h new
counted_next {front} {h} {s} {old} new e goes law before found more count = record {
  counts = subst (λ k. AreCountsOf k new) (sym (ap (λ n. take n h) more ∙ longer)) (count (take old.events h) lawful before.counts);
  past = let p = before.past in omega arith;
}
  where
    there : slice_get h old.events ≡ Some e
    there = ap (λ k. slice_get k old.events) goes.rest ∙ same_past front s.history old.events before.past ∙ event_there s.base s.history old.events e found

    longer : take (old.events + 1) h ≡ take old.events h ++ e ∷ []
    longer = take_next h old.events e there

    lawful : IsLawful nothing_kept (take old.events h ++ e ∷ [])
    lawful = subst (IsLawful nothing_kept) longer (lawful_take h law (old.events + 1))

pub counted_all : (front h : List Event) (s : State) (t : Tallies) → GoesOnFromFront front h s → Counted front h t
    → None ≡ event_since s.base s.history t.events
    → AreCountsOf h t
counted_all front h s t goes before missing = search (rules, slice_get, same_past, take_all, slice_get-past)

-- notes -------------------------------------------------------------------------------------------------

-- a note that was handed out
module _ (first now next : State) (going : now ≡ record first { given = now.given }) (handed : next ≡ record now { given = now.given + 1 }) where
  pub same_history : now.history ≡ first.history
  same_history = ap (λ s. s.history) going

  pub one_more_given : next.given ≡ now.given + 1
  one_more_given = ap (λ s. s.given) handed

  pub handed_book : next ≡ record first { given = next.given }
  handed_book = search (rules, one_more_given)

-- the notes from the first on that was not handed out, as far as they are now
pub mail_first : (mail all : List Mail) (n : ℕ) → mail ≡ mail ++ drop n (take n all)
mail_first mail all n = search (rules, drop_all, take, length-take, append-nil)

pub mail_next : (mail all : List Mail) (n m : ℕ) (note : Mail) → n ≤ m → m ≤ length all → Some note ≡ slice_get all m
    → (mail ++ drop n (take m all)) ++ note ∷ [] ≡ mail ++ drop n (take (m + 1) all)
mail_next mail all n m note begun within found =
    let long : n ≤ length (take m all) = (let l = length-take m all in omega arith) in
    append_assoc mail (drop n (take m all)) (note ∷ [])
    ∙ ap (λ l. mail ++ l) (sym (drop-append-le n (take m all) (note ∷ []) long) ∙ ap (drop n) (sym (take_next all m note (sym found))))

pub mail_all : (mail all : List Mail) (n m : ℕ) → None ≡ slice_get all m → mail ++ drop n (take m all) ≡ mail ++ drop n all
mail_all mail all n m missing = ap (λ l. mail ++ drop n l) (take_all m all (slice_get-past all m (sym missing)))

pub all_given : (all : List Mail) (m : ℕ) → m ≤ length all → None ≡ slice_get all m → m ≡ length all
all_given all m within missing = let past = slice_get-past all m (sym missing) in omega arith

-- both ----------------------------------------------------------------------------------------------------

pub counts_kept : (h : List Event) (old new : Tallies) → new ≡ record old { notes = new.notes } → AreCountsOf h old → AreCountsOf h new
counts_kept h old new same counts = search rules

pub goes_kept : (front h : List Event) (old new : State) → new ≡ record old { given = new.given } → GoesOnFromFront front h old → GoesOnFromFront front h new
goes_kept front h old new same goes = subst (λ s. GoesOnFromFront front h s) (sym same) (record { stored = goes.stored; rest = goes.rest })

pub notes_kept : (mail : List Mail) (old new : Tallies) → new.notes ≡ old.notes → AreNotesOf mail old → AreNotesOf mail new
notes_kept mail old new same before = λ n. ap (λ m. option_map_or (λ g. one_by_one g.items) (get nat_eq m n) []) same ∙ before n
