-- Parents and ancestors in a longer history.
use Rattle.rx_event.proofs.Laws.Common.{◌≡◌, ℕ, zero, suc, ◌<◌, ◌≤◌, true, List, [], ◌∷◌, ◌++◌, length, Option, Some, None, refl, ap, arith, ◌⊎◌, nat_lt, ◌==◌}
use Rattle.rx_event.proofs.Laws.Common.{slice_get, AllByRecursion, list_any, option_and_then, option_map_or, eqb-true, or_cases, false≢true, slice_get_within}
use Rattle.rx_event.proofs.Laws.Common.{Event, parent_named, parent, if_less, ancestors, is_within, ltb-true, or_right, cond_some}
use Rattle.std.proofs.lemmas.Option.{option_and_then_some}
use Rattle.rx_event.specs.Tree.{ancestors_within}
use Rattle.rx_event.proofs.Laws.Places.{slice_get-append}
use Rattle.std.proofs.Common.{rules}

-- parents have smaller numbers
pub parent-lt : (h : List Event) (n p : ℕ) → parent h n ≡ Some p → p < n
unfolding parent
parent-lt h n p e = search (rules, option_and_then_some, option_and_then, slice_get, cond_some, nat_lt, ltb-true)

pub parent-append : (h t : List Event) (n : ℕ) → n < length h → parent (h ++ t) n ≡ parent h n
unfolding parent
parent-append h t n l = ap (λ o. option_and_then (if_less n) (option_and_then parent_named o)) (slice_get-append h t n l)

-- one test for both
pub option_map_or-same : {X Y : Type 0} (f g : X → Y) (o : Option X) (d : Y) → ((x : X) → o ≡ Some x → f x ≡ g x) → option_map_or f o d ≡ option_map_or g o d
option_map_or-same f g o d same = grind arith

no_parent_of_zero : (h : List Event) (o : Option ℕ) → parent h 0 ≡ o → o ≡ None
no_parent_of_zero h x1 e = search (rules, parent-lt)

-- more steps lead no further
ancestors_enough : (k j : ℕ) (h : List Event) (n : ℕ) → n ≤ k → n ≤ j → ancestors_within k h n ≡ ancestors_within j h n
ancestors_enough zero zero h n a b = refl
ancestors_enough (suc k) (suc j) h n a b = ap (λ (xs : List ℕ). n ∷ xs) (option_map_or-same (ancestors_within k h) (ancestors_within j h) (parent h n) []
    (λ p e. let l : p < n = parent-lt h n p e in ancestors_enough k j h p (omega arith) (omega arith)))
ancestors_enough _ _ h n a b = let z : n ≡ 0 = omega arith in let e : parent h n ≡ None = rw z (no_parent_of_zero h (parent h 0) refl) in rw e refl

-- n, and then the ancestors of its parent
pub ancestors_step : (h : List Event) (n : ℕ) → ancestors h n ≡ n ∷ option_map_or (ancestors h) (parent h n) []
unfolding ancestors
ancestors_step h n = search (rules, ancestors_enough, option_map_or-same, parent-lt)

ancestors_within-append : (k : ℕ) (h t : List Event) (n : ℕ) → n < length h → ancestors_within k (h ++ t) n ≡ ancestors_within k h n
ancestors_within-append zero h t n l = refl
ancestors_within-append (suc k) h t n l = rw (parent-append h t n l) (ap (λ (xs : List ℕ). n ∷ xs)
    (option_map_or-same (ancestors_within k (h ++ t)) (ancestors_within k h) (parent h n) []
    (λ p e. let s : p < n = parent-lt h n p e in ancestors_within-append k h t p (omega arith))))

-- ancestors stay as they were
pub ancestors-append : (h t : List Event) (n : ℕ) → n < length h → ancestors (h ++ t) n ≡ ancestors h n
unfolding ancestors
ancestors-append h t n l = ancestors_within-append n h t n l

-- what holds of each element on the way up
ancestors_within-le : (k : ℕ) (h : List Event) (n m : ℕ) → n ≤ m → AllByRecursion (λ a. a ≤ m) (ancestors_within k h n)
ancestors_within-le zero h n m l = (l, tt)
ancestors_within-le (suc k) h n m l = (l, above (ancestors_within-le k h) (parent h n) refl) where
  above : ((p m : ℕ) → p ≤ m → AllByRecursion (λ a. a ≤ m) (ancestors_within k h p)) → (o : Option ℕ) → parent h n ≡ o →
      AllByRecursion (λ a. a ≤ m) (option_map_or (ancestors_within k h) o [])
  above ih None e = tt
  above ih (Some p) e = let s : p < n = parent-lt h n p e in ih p m (omega arith)

pub ancestors-le : (h : List Event) (n : ℕ) → AllByRecursion (λ a. a ≤ n) (ancestors h n)
unfolding ancestors
ancestors-le h n = ancestors_within-le n h n n (omega arith)

pub parent_within : (h : List Event) (c p : ℕ) → parent h c ≡ Some p → c < length h
unfolding parent
parent_within h c p below = search (rules, option_and_then_some, option_and_then, slice_get, slice_get_within)

-- a node with a parent names it
pub parent_name : (h : List Event) (n p : ℕ) (e : Event) → parent h n ≡ Some p → slice_get h n ≡ Some e → parent_named e ≡ Some p
unfolding parent
parent_name h n p e below at_n = search (rules, option_and_then_some, option_and_then, slice_get, cond_some, nat_lt)

-- what n is within ---------------------------------------------------------------------------------

-- n is within c where it is c, or its parent is within c
pub within_cases : (h : List Event) (c n : ℕ) → is_within h c n ≡ true → (c ≡ n) ⊎ ((p : ℕ) × (parent h n ≡ Some p) × (is_within h c p ≡ true))
within_cases h c n within = search (rules, or_cases, list_any, option_map_or, ancestors_step, false≢true, eqb-true)

pub within_parent : (h : List Event) (c n p : ℕ) → parent h n ≡ Some p → is_within h c p ≡ true → is_within h c n ≡ true
within_parent h c n p below above = search (rules, list_any, ancestors_step, or_right)

within-le : (xs : List ℕ) (c n : ℕ) → AllByRecursion (λ a. a ≤ n) xs → list_any (λ a. c == a) xs ≡ true → c ≤ n
within-le [] c n all found = absurd (false≢true found)
within-le (x ∷ xs) c n all found = search (rules, or_cases, list_any, eqb-true, within-le xs c n all.1)

-- then c has no larger number
pub is_within-le : (h : List Event) (c n : ℕ) → is_within h c n ≡ true → c ≤ n
is_within-le h c n within = within-le (ancestors h n) c n (ancestors-le h n) within
