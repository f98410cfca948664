-- Searches of a list: by a test, and by the first value that there is.
use Rattle.rx_event.proofs.Laws.Common.{arith, ◌≡◌, ℕ, zero, suc, Bool, true, List, [], ◌∷◌, ◌++◌, Option, Some, None, refl, ap, ◌∙◌, inl, inr, ◌⊎◌, slice_get}
use Rattle.rx_event.proofs.Laws.Common.{◌||◌, list_any, option_or, false≢true, or_cases, same_Some, none-some, or_false, or_right, list_any-append}
use Rattle.rx_event.specs.Marks.{first_some}
use Rattle.std.proofs.Common.{rules}

-- searches ----------------------------------------------------------------------------------------

pub list_any_found : {X : Type 0} (p : X → Bool) (xs : List X) → list_any p xs ≡ true → (i : ℕ) × (x : X) × (slice_get xs i ≡ Some x) × (p x ≡ true)
list_any_found p [] found = absurd (false≢true found)
list_any_found {X = X} p (x ∷ xs) found = by_first (or_cases (p x) (list_any p xs) found) (list_any_found p xs) where
  by_first : (p x ≡ true) ⊎ (list_any p xs ≡ true) → (list_any p xs ≡ true → (i : ℕ) × (y : X) × (slice_get xs i ≡ Some y) × (p y ≡ true)) →
      (i : ℕ) × (y : X) × (slice_get (x ∷ xs) i ≡ Some y) × (p y ≡ true)
  by_first (inl here) rest = (0, x, refl, here)
  by_first (inr later) rest = let r = rest later in (suc r.0, r.1, r.2, r.3)

pub list_any_holds : {X : Type 0} (p : X → Bool) (xs : List X) (i : ℕ) (x : X) → slice_get xs i ≡ Some x → p x ≡ true → list_any p xs ≡ true
list_any_holds p [] i x at_i holds = absurd (none-some x at_i)
list_any_holds p (y ∷ xs) zero x at_i holds = rw (same_Some y x at_i, holds) refl
list_any_holds p (y ∷ xs) (suc i) x at_i holds = or_right (p y) (list_any p xs) (list_any_holds p xs i x at_i holds)

pub first_found : {X Y : Type 0} (f : X → Option Y) (xs : List X) (y : Y) → first_some f xs ≡ Some y →
    (i : ℕ) × (x : X) × (slice_get xs i ≡ Some x) × (f x ≡ Some y)
first_found f [] y found = absurd (none-some y found)
first_found {X = X} {Y = Y} f (x ∷ xs) y found = by_first (f x) refl found (first_found f xs y) where
  by_first : (o : Option Y) → f x ≡ o → option_or o (first_some f xs) ≡ Some y →
      (first_some f xs ≡ Some y → (i : ℕ) × (z : X) × (slice_get xs i ≡ Some z) × (f z ≡ Some y)) →
      (i : ℕ) × (z : X) × (slice_get (x ∷ xs) i ≡ Some z) × (f z ≡ Some y)
  by_first (Some u) here same rest = (0, x, refl, here ∙ same)
  by_first None here later rest = let r = rest later in (suc r.0, r.1, r.2, r.3)

pub first_none : {X Y : Type 0} (f : X → Option Y) (xs : List X) → first_some f xs ≡ None → (i : ℕ) (x : X) → slice_get xs i ≡ Some x → f x ≡ None
first_none f [] none i x at_i = absurd (none-some x at_i)
first_none {X = X} {Y = Y} f (y ∷ xs) none i x at_i = search (rules, option_or, slice_get, none-some, same_Some, first_none f xs)

-- one more event: searches ------------------------------------------------------------------------

pub list_any_push : {X : Type 0} (p : X → Bool) (xs : List X) (x : X) → list_any p (xs ++ x ∷ []) ≡ (list_any p xs || p x)
list_any_push p xs x = list_any-append p xs (x ∷ []) ∙ ap (λ b. list_any p xs || b) (or_false (p x))

pub list_any_same_at : {X : Type 0} (p q : X → Bool) (xs : List X) → ((i : ℕ) (x : X) → slice_get xs i ≡ Some x → p x ≡ q x) → list_any p xs ≡ list_any q xs
list_any_same_at p q [] same = refl
list_any_same_at p q (x ∷ xs) same = rw (same 0 x refl, list_any_same_at p q xs (λ i y at_i. same (suc i) y at_i)) refl

pub or_nothing : {X : Type 0} (o : Option X) → option_or o None ≡ o
or_nothing o = grind arith

pub first_some_push : {X Y : Type 0} (f : X → Option Y) (xs : List X) (x : X) → first_some f (xs ++ x ∷ []) ≡ option_or (first_some f xs) (f x)
first_some_push f [] x = or_nothing (f x)
first_some_push {Y = Y} f (y ∷ xs) x = search (rules, option_or, first_some_push f xs x)

pub first_some_same_at : {X Y : Type 0} (f g : X → Option Y) (xs : List X) → ((i : ℕ) (x : X) → slice_get xs i ≡ Some x → f x ≡ g x) →
    first_some f xs ≡ first_some g xs
first_some_same_at f g [] same = refl
first_some_same_at f g (x ∷ xs) same = rw (same 0 x refl, first_some_same_at f g xs (λ i y at_i. same (suc i) y at_i)) refl
