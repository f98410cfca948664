-- What holds of the elements of a list, and what a filter leaves.
use Rattle.rx_event.proofs.Laws.Common.{◌≡◌, ℕ, zero, suc, ◌+◌, ◌-◌, ◌<◌, ◌≤◌, Bool, true, false, List, [], ◌∷◌, ◌++◌, length, cond, refl, sym, ap, ◌∙◌}
use Rattle.rx_event.proofs.Laws.Common.{arith, inl, inr, ◌⊎◌, filter, AllByRecursion, range_with_len, cases_Bool, cases_lt, cases_order, both_ways}
use Rattle.std.proofs.Common.{rules}

pub AllByRecursion-both : {X : Type 0} (P : X → Type 0) (xs ys : List X) → AllByRecursion P xs → AllByRecursion P ys → AllByRecursion P (xs ++ ys)
AllByRecursion-both P [] ys a b = b
AllByRecursion-both P (x ∷ xs) ys a b = (a.0, AllByRecursion-both P xs ys a.1 b)

-- filters -----------------------------------------------------------------------------------------

pub filtered : {X : Type 0} (p : X → Bool) (P : X → Type 0) → ((x : X) → p x ≡ true → P x) → (xs : List X) → AllByRecursion P (filter p xs)
filtered p P holds [] = tt
filtered p P holds (x ∷ xs) = search (rules, AllByRecursion, filter, cond, filtered p P holds xs)

-- what a filter leaves first passes
pub first_passes : {X : Type 0} (p : X → Bool) (xs : List X) (x : X) (rest : List X) → filter p xs ≡ x ∷ rest → p x ≡ true
first_passes p xs x rest e = let each : AllByRecursion (λ y. p y ≡ true) (filter p xs) = filtered p (λ y. p y ≡ true) (λ y t. t) xs in (rw e at each).0

-- a number that passes is left
pub filter_nonempty : (p : ℕ → Bool) (s n k : ℕ) → s ≤ k → k < s + n → p k ≡ true → filter p (range_with_len s n) ≡ [] → ⊥
filter_nonempty p s zero k above below passes empty = absurd (omega arith)
filter_nonempty p s (suc n) k above below passes empty = search (rules, filter, range_with_len, both_ways, cond, length, cases_order, filter_nonempty p (s + 1) n k)

pub filter_none : (p : ℕ → Bool) (s n : ℕ) → ((k : ℕ) → s ≤ k → p k ≡ false) → filter p (range_with_len s n) ≡ []
filter_none p s zero none = refl
filter_none p s (suc n) none = rw (none s (omega arith)) (filter_none p (s + 1) n (λ k l. none k (omega arith)))

-- where no two numbers pass, at most one is left
pub filter_few : (p : ℕ → Bool) (s n : ℕ) → ((a b : ℕ) → p a ≡ true → p b ≡ true → a ≡ b) → length (filter p (range_with_len s n)) ≤ 1
filter_few p s zero same = omega arith
filter_few p s (suc n) same = search (rules, length, filter, range_with_len, cond, filter_none, cases_Bool, filter_few p (s + 1) n same)

-- filters of unlike length ---------------------------------------------------------------------------------

-- what fails from there on adds nothing to a filter
filter_to : (p : ℕ → Bool) (s a c : ℕ) → ((n : ℕ) → s + a ≤ n → p n ≡ false) → filter p (range_with_len s (a + c)) ≡ filter p (range_with_len s a)
filter_to p s zero c past = search (rules, filter, range_with_len, filter_none)
filter_to p s (suc a) c past =
    let same : suc a + c ≡ suc (a + c) = omega arith in
    let rest = filter_to p (s + 1) a c (λ n l. past n (omega arith)) in
    ap (λ m. filter p (range_with_len s m)) same ∙ ap (λ xs. cond (p s) (s ∷ xs) xs) rest

-- so one test gives one list
pub same_filter : (p q : ℕ → Bool) (m n : ℕ) → ((x : ℕ) → p x ≡ q x) → ((x : ℕ) → m ≤ x → p x ≡ false) → ((x : ℕ) → n ≤ x → q x ≡ false) →
    filter p (range_with_len 0 m) ≡ filter q (range_with_len 0 n)
same_filter p q m n same past_p past_q = by_length (cases_lt m n) where
  by_length : (m < n) ⊎ (n ≤ m) → filter p (range_with_len 0 m) ≡ filter q (range_with_len 0 n)
  by_length (inl l) =
      let long : m + (n - m) ≡ n = omega arith in
      ap (λ f. filter f (range_with_len 0 m)) (λ i x. same x i) ∙ sym (filter_to q 0 m (n - m) (λ x le. sym (same x) ∙ past_p x (omega arith))) ∙
      ap (λ k. filter q (range_with_len 0 k)) long
  by_length (inr l) =
      let long : n + (m - n) ≡ m = omega arith in
      ap (λ k. filter p (range_with_len 0 k)) (sym long) ∙ filter_to p 0 n (m - n) (λ x le. same x ∙ past_q x (omega arith)) ∙
      ap (λ f. filter f (range_with_len 0 n)) (λ i x. same x i)
