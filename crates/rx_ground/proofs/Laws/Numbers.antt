-- Lists of just the numbers that pass a test, each once: they are as many as pass it.
use Rattle.rx_ground.proofs.Common.{◌≡◌, ◌≢◌, ℕ, zero, suc, ◌+◌, ◌<◌, ◌==◌, Bool, true, false, cond, List, [], ◌∷◌, length, count_by, IsTrue, refl, sym, ap}
use Rattle.rx_ground.proofs.Common.{◌∙◌, arith, eq-eqb, not, ◌&&◌, All, AllPairs, Contains, range_with_len, and_parts, and_from, not_from_false, ne_eqb}
use Rattle.rx_ground.proofs.Common.{eqb-true, false≢true, false_from_ne_true, All-contains, All-head, sums_balance, sum_by_none, count_by_one}
use Rattle.rx_ground.proofs.Laws.Members.{Contains-later, All-members, AllPairs-head, AllPairs-tail}
use Rattle.std.proofs.Common.{rules}

-- the numbers of the list are those that pass the test, each once
pub record ListsJust (test : ℕ → Bool) (numbers : List ℕ) : Type 0 where
  pub each : All (λ n. IsTrue (test n)) numbers
  pub every : (n : ℕ) → IsTrue (test n) → Contains numbers n
  pub once : AllPairs (λ m n. m ≢ n) numbers

-- those that pass, without x
abbrev but : ℕ → (ℕ → Bool) → ℕ → Bool
but x test n = test n && not (x == n)

just_others : (test : ℕ → Bool) (x : ℕ) (xs : List ℕ) → ListsJust test (x ∷ xs) → ListsJust (but x test) xs
just_others test x xs just = record {
  each = All-members (λ n. IsTrue (but x test n)) xs (λ n c. and_from (test n) (not (x == n)) (passes n c) (not_from_false (x == n) (other n c)));
  every = λ n passes. let parts = and_parts (test n) (not (x == n)) passes in further n parts.1 (just.every n parts.0);
  once = AllPairs-tail (λ m n. m ≢ n) x xs just.once;
}
  where
    passes : (n : ℕ) → Contains xs n → test n ≡ true
    passes n c = All-contains (λ m. test m ≡ true) (x ∷ xs) n just.each (Contains-later x xs n c)

    other : (n : ℕ) → Contains xs n → (x == n) ≡ false
    other n c = ne_eqb x n (AllPairs-head (λ a b. a ≢ b) x xs just.once n c)

    further : (n : ℕ) → not (x == n) ≡ true → Contains (x ∷ xs) n → Contains xs n
    further n apart (zero, within, at) = absurd (false≢true (sym (ap not (eq-eqb x n at)) ∙ apart))
    further n apart (suc k, within, at) = (k, omega arith, at)

-- such a list is as long as there are numbers that pass
pub just_counted : (test : ℕ → Bool) (xs : List ℕ) (m : ℕ) → ListsJust test xs → ((n : ℕ) → test n ≡ true → n < m) →
    length xs ≡ count_by test (range_with_len 0 m)
just_counted test [] m just below = search (rules, sum_by_none, cond, false_from_ne_true)
just_counted test (x ∷ xs) m just below =
    let rest = just_counted (but x test) xs m (just_others test x xs just) (λ n passes. below n (and_parts (test n) (not (x == n)) passes).0) in
    let balance = sums_balance (λ k. cond (test k) 1 0) (λ k. 0) (λ k. cond (but x test k) 1 0) (λ k. cond (x == k) 1 0) m each in
    let none = sum_by_none (λ k. 0) m (λ k l. refl) in
    let one = count_by_one x m (below x here) in
    omega arith
  where
    here : test x ≡ true
    here = All-head (λ n. IsTrue (test n)) x xs just.each

    shape : (t s : Bool) → (s ≡ true → t ≡ true) → cond {A = ℕ} t 1 0 + 0 ≡ cond (t && not s) 1 0 + cond s 1 0
    shape true true implies = refl
    shape true false implies = refl
    shape false true implies = absurd (false≢true (implies refl))
    shape false false implies = refl

    each : (k : ℕ) → k < m → cond {A = ℕ} (test k) 1 0 + 0 ≡ cond (but x test k) 1 0 + cond (x == k) 1 0
    each k l = shape (test k) (x == k) (λ same. ap test (sym (eqb-true x k same)) ∙ here)
