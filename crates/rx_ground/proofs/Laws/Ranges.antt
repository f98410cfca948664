-- Searches of a range of numbers: what is found is the first that passes.
use Rattle.std.proofs.Common.{◌≡◌, ℕ, zero, suc, ◌+◌, ◌<◌, ◌≤◌, Bool, true, false, List, [], ◌∷◌, Option, Some, None, cond, refl, ap, ◌∙◌, arith, inl, inr, ◌⊎◌}
use Rattle.std.specs.List.{find, range_with_len}
use Rattle.std.proofs.lemmas.Bool.{cases_order}

pub find_nothing : (p : ℕ → Bool) → ((n : ℕ) → p n ≡ false) → (ns : List ℕ) → find p ns ≡ None
find_nothing p none [] = refl
find_nothing p none (n ∷ ns) = ap (λ b. cond b (Some n) (find p ns)) (none n) ∙ find_nothing p none ns

pub find_first : (p : ℕ → Bool) (first count n : ℕ) → first ≤ n → n < first + count → p n ≡ true → ((k : ℕ) → k < n → p k ≡ false) →
    find p (range_with_len first count) ≡ Some n
find_first p first zero n from below passes before = absurd (omega arith)
find_first p first (suc count) n from below passes before =
    by_place (λ (l : first < n). find_first p (first + 1) count n (omega arith) (omega arith) passes before) (cases_order first n)
  where
    rest : Option ℕ
    rest = find p (range_with_len (first + 1) count)

    by_place : (first < n → rest ≡ Some n) → (first ≡ n) ⊎ ((first < n) ⊎ (n < first)) → cond (p first) (Some first) rest ≡ Some n
    by_place later (inl same) = ap (λ b. cond b (Some first) rest) (ap p same ∙ passes) ∙ ap (λ k. Some k) same
    by_place later (inr (inl l)) = ap (λ b. cond b (Some first) rest) (before first l) ∙ later l
    by_place later (inr (inr g)) = absurd (omega arith)
