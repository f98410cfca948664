-- Lists of the numbers of just those that pass a test.
use Rattle.std.proofs.Common.{◌≡◌, ◌≢◌, ℕ, suc, zero, ◌<◌, ◌==◌, ◌||◌, Bool, true, false, List, [], ◌∷◌, length, refl, sym, ap, ◌∙◌, arith, subst, IsTrue}
use Rattle.std.proofs.lemmas.Bool.{eqb-true, eq-eqb, false≢true, both_ways, or_cases, or_right}
use Rattle.std.proofs.lemmas.List.Elements.{All-nil, All-cons, All-tail}
use Rattle.std.proofs.lemmas.List.Kept.{AllPairs-cons}
use Rattle.std.specs.List.{All, Contains}
use Rattle.std.proofs.Common.{◌⊎◌, inl, inr}
use Rattle.rx_event.specs.Gone.{AreJust}
use Rattle.rx_roles.specs.Roles.{is_among}

-- one of the list is among them, and what is among them is one of it
pub among_all : (P : ℕ → Type 0) (n : ℕ) (xs : List ℕ) → All P xs → is_among n xs ≡ true → P n
among_all P n [] all is = absurd (false≢true is)
among_all P n (x ∷ xs) all is = by_test (x == n) refl is (λ there. among_all P n xs (All-tail P x xs all) there) where
  by_test : (b : Bool) → (x == n) ≡ b → (b || is_among n xs) ≡ true → (is_among n xs ≡ true → P n) → P n
  by_test true same there rest = subst P (eqb-true x n same) (all 0 x (let w : 0 < suc (length xs) = omega arith in w))
  by_test false other there rest = rest there

pub contains_among : (n : ℕ) (xs : List ℕ) → Contains xs n → is_among n xs ≡ true
contains_among n [] c = absurd (let l = c.1 in omega arith)
contains_among n (x ∷ xs) (zero, within, is) = ap (λ (b : Bool). b || is_among n xs) (eq-eqb x n is)
contains_among n (x ∷ xs) (suc k, within, is) = or_right (x == n) (is_among n xs) (contains_among n xs (k, (let l = within in omega arith), is))

-- so a number is among them just where it passes
pub just_among : {test : ℕ → Bool} {ns : List ℕ} → AreJust test ns → (n : ℕ) → is_among n ns ≡ test n
just_among {test} {ns} just n = by_tests (is_among n ns) (test n) refl refl where
  by_tests : (a b : Bool) → is_among n ns ≡ a → test n ≡ b → a ≡ b
  by_tests true true there passes = refl
  by_tests false false there passes = refl
  by_tests true false there fails = absurd (both_ways (test n) fails (among_all (λ m. IsTrue (test m)) n ns just.each there))
  by_tests false true missing passes = absurd (both_ways (is_among n ns) missing (contains_among n ns (just.every n passes)))

-- which lists are that ------------------------------------------------------------------------------

pub just_none : {test : ℕ → Bool} → ((n : ℕ) → test n ≡ false) → AreJust test []
just_none {test} none = record {
  each = All-nil (λ n. IsTrue (test n));
  every = λ n is. absurd (both_ways (test n) (none n) is);
  once = λ i j d l within. absurd (omega arith);
}

-- one number more
pub just_more : {test others : ℕ → Bool} (m : ℕ) {ns : List ℕ} → AreJust others ns → others m ≡ false → ((n : ℕ) → test n ≡ ((m == n) || others n)) →
    AreJust test (m ∷ ns)
just_more {test} {others} m {ns} rest new same = record {
  each = All-cons (λ n. IsTrue (test n)) m ns (same m ∙ ap (λ (b : Bool). b || others m) (eq-eqb m m refl))
      (λ k d l. same _ ∙ or_right _ _ (rest.each k d l));
  every = λ n is. by_part n (or_cases (m == n) (others n) (sym (same n) ∙ is));
  once = AllPairs-cons (λ i j. i ≢ j) m ns (λ k d l is. both_ways (others m) new (ap others is ∙ rest.each k d l)) rest.once;
} where
  by_part : (n : ℕ) → ((m == n) ≡ true) ⊎ (others n ≡ true) → Contains (m ∷ ns) n
  by_part n (inl here) = (zero, (let w : 0 < suc (length ns) = omega arith in w), eqb-true m n here)
  by_part n (inr there) = let c = rest.every n there in (suc c.0, (let l = c.1 in omega arith), c.2)
