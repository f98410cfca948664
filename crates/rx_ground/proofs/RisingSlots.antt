-- Lists of slots whose numbers rise, as one comes last and as one leaves.
use Rattle.rx_ground.proofs.Common.{◌≡◌, ℕ, ◌<◌, ◌≤◌, ◌==◌, ◌++◌, cond, Bool, true, false, List, [], ◌∷◌, Some, is_some, refl, sym, ap, ◌∙◌, inl, inr}
use Rattle.rx_ground.proofs.Common.{◌⊎◌, arith, not, cases_Bool, false≢true, eqb-true, eq-eqb, and_parts, is_in, take_out, head_of, AreRising}
use Rattle.std.proofs.Common.{◌||◌, ◌&&◌, rules}

-- who stands on a longer list
pub is_in-append : (y m : ℕ) (xs : List ℕ) → is_in y (xs ++ m ∷ []) ≡ (is_in y xs || (y == m))
is_in-append y m [] = search rules
is_in-append y m (x ∷ xs) = search (rules, is_in-append y m xs)

-- and on one that a number left
pub is_in-out : (y m : ℕ) (xs : List ℕ) → is_in y (take_out m xs) ≡ (is_in y xs && not (m == y))
is_in-out y m [] = refl
is_in-out y m (x ∷ xs) = search (rules, cases_Bool, not, false≢true, cond, eq-eqb, eqb-true, is_in-out y m xs)

-- the first of a list stands on it, and where there is none nobody does
pub head_in : (xs : List ℕ) (m : ℕ) → head_of xs ≡ Some m → is_in m xs ≡ true
head_in x0 m is = search (rules, false≢true, is_some, eq-eqb)

module _ (f : ℕ → ℕ) where
  pub rising_append : (m : ℕ) (xs : List ℕ) → AreRising f xs → ((y : ℕ) → is_in y xs ≡ true → f y < f m) → AreRising f (xs ++ m ∷ [])
  rising_append m [] r below = ((λ y on. absurd (false≢true on)), tt)
  rising_append m (x ∷ xs) r below =
      ((λ y on. first y (cases_Bool (is_in y xs)) (sym (is_in-append y m xs) ∙ on)), rising_append m xs r.1 (λ y on. below y (rw on (or_true (y == x))))) where
        or_true : (b : Bool) → (b || true) ≡ true
        or_true true = refl
        or_true false = refl

        last : (y : ℕ) → is_in y xs ≡ false → (is_in y xs || (y == m)) ≡ true → y ≡ m
        last y off on = eqb-true y m (ap (λ b. b || (y == m)) (sym off) ∙ on)

        first : (y : ℕ) → (is_in y xs ≡ true) ⊎ (is_in y xs ≡ false) → (is_in y xs || (y == m)) ≡ true → f x < f y
        first y (inl old) on = r.0 y old
        first y (inr new) on = let same = last y new on in let l = below x (rw (eq-eqb x x refl) refl) in omega (arith, ap f same)

  pub rising_out : (m : ℕ) (xs : List ℕ) → AreRising f xs → AreRising f (take_out m xs)
  rising_out m [] r = tt
  rising_out m (x ∷ xs) r = search (rules, cond, not, and_parts, is_in-out, rising_out m xs r.1)

  -- the first is least
  pub first_least : (xs : List ℕ) (m : ℕ) → head_of xs ≡ Some m → AreRising f xs → (y : ℕ) → is_in y xs ≡ true → f m ≤ f y
  first_least x0 m is r y on = search (rules, false≢true, cases_Bool, eqb-true)

-- what is read alike of all on a list rises alike
pub rising_same : (f g : ℕ → ℕ) (xs : List ℕ) → ((y : ℕ) → is_in y xs ≡ true → g y ≡ f y) → AreRising f xs → AreRising g xs
rising_same f g [] same r = tt
rising_same f g (x ∷ xs) same r = (
  (λ y on. let l = r.0 y on in let a = same x (rw (eq-eqb x x refl) refl) in let b = same y (rw on (or_true (y == x))) in omega arith),
  rising_same f g xs (λ y on. same y (rw on (or_true (y == x)))) r.1,
) where
  or_true : (b : Bool) → (b || true) ≡ true
  or_true true = refl
  or_true false = refl

-- two on a list that stand for one number are one
pub rising_apart : (f : ℕ → ℕ) (xs : List ℕ) → AreRising f xs → (a b : ℕ) → is_in a xs ≡ true → is_in b xs ≡ true → f a ≡ f b → a ≡ b
rising_apart f [] r a b on_a on_b same = absurd (false≢true on_a)
rising_apart f (x ∷ xs) r a b on_a on_b same =
    by_tests (λ on_a on_b. rising_apart f xs r.1 a b on_a on_b same) (cases_Bool (a == x)) (cases_Bool (b == x)) where
      later : (y : ℕ) → (y == x) ≡ false → is_in y (x ∷ xs) ≡ true → is_in y xs ≡ true
      later y other on = ap (λ c. c || is_in y xs) (sym other) ∙ on

      by_tests : (is_in a xs ≡ true → is_in b xs ≡ true → a ≡ b) → ((a == x) ≡ true) ⊎ ((a == x) ≡ false) → ((b == x) ≡ true) ⊎ ((b == x) ≡ false) → a ≡ b
      by_tests below (inl p) (inl q) = eqb-true a x p ∙ sym (eqb-true b x q)
      by_tests below (inl p) (inr q) = absurd (let l = r.0 b (later b q on_b) in let e = ap f (eqb-true a x p) in omega arith)
      by_tests below (inr p) (inl q) = absurd (let l = r.0 a (later a p on_a) in let e = ap f (eqb-true b x q) in omega arith)
      by_tests below (inr p) (inr q) = below (later a p on_a) (later b q on_b)
