-- Numbers that are sorted, each once.
use Rattle.rx_listing.proofs.Common.{◌≡◌, ℕ, zero, suc, ◌<◌, ◌≤◌, ◌==◌, Bool, true, false, cond, List, [], ◌∷◌, refl, sym, ◌∙◌, inl, inr, ◌⊎◌, arith, filter}
use Rattle.rx_listing.proofs.Common.{nat_lt, nat_eq, list_any, range_with_len, cases_lt, ltb-true, false≢true, nat_eq_equiv}
use Rattle.std.specs.List.{AllByRecursion, Contains, dedup}
use Rattle.std.specs.List.Sorted.{IsStrictlySortedBy, IsSorted, IsPermutation}
use Rattle.std.specs.Ordering.{nat_cmp}
use Rattle.std.specs.declared.cmp.Ordering.TheVariants.{Less, Equal, Greater}
use Rattle.std.proofs.lemmas.List.Kept.{Contains-dedup_nat, Contains-from_dedup}
use Rattle.std.proofs.lemmas.List.Sorted.{Contains-permutation, IsPermutation-sym}
use Rattle.std.proofs.lemmas.Map.Keys.{sorted_head, sorted_tail, IsStrictlyIncreasing-dedup, sorted_from_strictly_increasing}
use Rattle.std.proofs.lemmas.Map.Views.{Contains-from_any, list_any-from_Contains, exact_unsigned_eq}
use Rattle.rx_event.proofs.Laws.RisingLists.{In, Rises, rising_same, in_filter, filter_in, filter_rises, in_range, range_rises}

less : (x y : ℕ) → nat_cmp x y ≡ Less → x < y
less x y is = by_test (nat_lt x y) (x == y) refl is where
  by_test : (b e : Bool) → nat_lt x y ≡ b → cond b Less (cond e Equal Greater) ≡ Less → x < y
  by_test true e l is = ltb-true x y l
  by_test false true l is = absurd (cc)
  by_test false false l is = absurd (cc)

below : (x : ℕ) (xs : List ℕ) → AllByRecursion (λ y. nat_cmp x y ≡ Less) xs → AllByRecursion (λ y. x < y) xs
below x [] all = tt
below x (y ∷ ys) all = (less x y all.0, below x ys all.1)

rises_of : (xs : List ℕ) → IsStrictlySortedBy nat_cmp xs → Rises xs
rises_of [] sorted = tt
rises_of (x ∷ xs) sorted = (below x xs (sorted_head nat_cmp x xs sorted), rises_of xs (sorted_tail nat_cmp x xs sorted))

contains_in : (xs : List ℕ) (k : ℕ) → Contains xs k → In k xs
contains_in [] k w = let l = w.1 in absurd (omega arith)
contains_in (x ∷ xs) k (zero, l, same) = inl same
contains_in (x ∷ xs) k (suc i, l, same) = inr (contains_in xs k (i, omega arith, same))

in_contains : (xs : List ℕ) (k : ℕ) → In k xs → Contains xs k
in_contains [] k i = absurd i
in_contains (x ∷ xs) k (inl same) = (0, omega arith, same)
in_contains (x ∷ xs) k (inr i) = let w : Contains xs k = in_contains xs k i in let l = w.1 in (suc w.0, omega arith, w.2)

-- a list that rises and has just the numbers below a bound that pass a test
are_just : (p : ℕ → Bool) (ns : List ℕ) (len : ℕ) → Rises ns → ((k : ℕ) → In k ns → p k ≡ true) → ((k : ℕ) → p k ≡ true → In k ns) →
    ((k : ℕ) → len ≤ k → p k ≡ false) → ns ≡ filter p (range_with_len 0 len)
are_just p ns len rises pass all past =
    rising_same ns (filter p (range_with_len 0 len)) rises (filter_rises p (range_with_len 0 len) (range_rises 0 len))
    (λ k i. in_filter p (range_with_len 0 len) k (within k (pass k i) (cases_lt k len)) (pass k i)) (λ k i. all k (filter_in p (range_with_len 0 len) k i).1)
  where
    within : (k : ℕ) → p k ≡ true → (k < len) ⊎ (len ≤ k) → In k (range_with_len 0 len)
    within k passes (inl l) = in_range 0 len k (omega arith) (omega arith)
    within k passes (inr l) = absurd (false≢true (sym (past k l) ∙ passes))

-- the numbers of a list, sorted and each once
pub sorted_once : (p : ℕ → Bool) (first second : List ℕ) (len : ℕ) → ((k : ℕ) → p k ≡ list_any (nat_eq k) first) →
    IsPermutation first second → IsSorted nat_cmp second → ((k : ℕ) → len ≤ k → p k ≡ false) → dedup nat_eq second ≡ filter p (range_with_len 0 len)
sorted_once p first second len same moved sorted past =
    are_just p (dedup nat_eq second) len
    (rises_of (dedup nat_eq second) (sorted_from_strictly_increasing (dedup nat_eq second) (IsStrictlyIncreasing-dedup second sorted)))
    (λ k i. same k ∙ list_any-from_Contains nat_eq_equiv k first
    (Contains-permutation second first k (IsPermutation-sym first second moved) (Contains-from_dedup nat_eq second k (in_contains (dedup nat_eq second) k i))))
    (λ k passes. contains_in (dedup nat_eq second) k
    (Contains-dedup_nat second k (Contains-permutation first second k moved (Contains-from_any exact_unsigned_eq k first (sym (same k) ∙ passes)))))
    past

-- what such a list has
module _ (p : ℕ → Bool) (len : ℕ) where
  pub listed : (n : ℕ) → n < len → p n ≡ true → list_any (nat_eq n) (filter p (range_with_len 0 len)) ≡ true
  listed n l passes =
      list_any-from_Contains nat_eq_equiv n (filter p (range_with_len 0 len))
      (in_contains (filter p (range_with_len 0 len)) n (in_filter p (range_with_len 0 len) n (in_range 0 len n (omega arith) (omega arith)) passes))
