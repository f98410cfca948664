-- Values that are kept for numbers, one after another.
use Rattle.rx_listing.proofs.Common.{◌≡◌, ℕ, ◌+◌, ◌<◌, Bool, true, false, cond, List, [], ◌∷◌, ◌++◌, length, take, Option, None, refl, sym, ap, ◌∙◌, arith}
use Rattle.rx_listing.proofs.Common.{get_or, ◌||◌, nat_eq, list_any, take_more, take_all, list_any-append, list_any_push, IsKept, Some, ◌≤◌}
use Rattle.rx_listing.proofs.Common.{count_by, sum_by-cons}
use Rattle.std.proofs.lemmas.Grind.{get_or_default_zero}
use Rattle.std.proofs.lemmas.List.{length-take-le}
use Rattle.std.proofs.lemmas.List.Sums.{sum_by-append, count_by-le-length}
use Rattle.rx_listing.specs.Parts.{IsPut}
use Rattle.std.proofs.lemmas.Bool.{eq-eqb, ne_eqb, eqb-true, eqb-false}

pub turned : (k n : ℕ) → nat_eq k n ≡ nat_eq n k
turned k n = by_test (nat_eq k n) refl where
  by_test : (b : Bool) → nat_eq k n ≡ b → b ≡ nat_eq n k
  by_test true same = sym (eq-eqb n k (sym (eqb-true k n same)))
  by_test false apart = sym (ne_eqb n k (λ same. eqb-false k n apart (sym same)))

any_more : (n : ℕ) (ns : List ℕ) (i k : ℕ) → i < length ns → get_or ns i k ≡ k →
    list_any (nat_eq n) (take (i + 1) ns) ≡ (list_any (nat_eq n) (take i ns) || nat_eq n k)
any_more n ns i k within at_i =
    ap (list_any (nat_eq n)) (take_more ns i k within ∙ ap (λ (m : ℕ). take i ns ++ m ∷ []) at_i) ∙ list_any_push (nat_eq n) (take i ns) k

-- three lists in a row
any_first : (p : ℕ → Bool) (xs ys : List ℕ) → list_any p xs ≡ true → list_any p (xs ++ ys) ≡ true
any_first p xs ys there = list_any-append p xs ys ∙ ap (λ (b : Bool). b || list_any p ys) there

any_second : (p : ℕ → Bool) (xs ys : List ℕ) → list_any p ys ≡ true → list_any p (xs ++ ys) ≡ true
any_second p xs ys there = list_any-append p xs ys ∙ ap (λ (b : Bool). list_any p xs || b) there ∙ or_true (list_any p xs) where
  or_true : (b : Bool) → (b || true) ≡ true
  or_true true = refl
  or_true false = refl

module _ (p : ℕ → Bool) (a b c mid all : List ℕ) (longer : mid ≡ a ++ b) (longest : all ≡ mid ++ c) where
  pub any_in_first : list_any p a ≡ true → list_any p all ≡ true
  any_in_first there = ap (list_any p) longest ∙ any_first p mid c (ap (list_any p) longer ∙ any_first p a b there)

  pub any_in_second : list_any p b ≡ true → list_any p all ≡ true
  any_in_second there = ap (list_any p) longest ∙ any_first p mid c (ap (list_any p) longer ∙ any_second p a b there)

  pub any_in_third : list_any p c ≡ true → list_any p all ≡ true
  any_in_third there = ap (list_any p) longest ∙ any_second p mid c there

-- a number more, for which its value is kept
pub kept_next : {X : Type 0} (want : ℕ → Option X) {old new : ℕ → Option X} (ns : List ℕ) (i : ℕ) {k : ℕ} → i < length ns → get_or ns i k ≡ k →
    ((n : ℕ) → new n ≡ cond (nat_eq k n) (want n) (old n)) → IsKept (take i ns) want old → IsKept (take (i + 1) ns) want new
kept_next {X} want ns i {k} within at_i next before n =
    next n ∙ ap (λ (o : Option X). cond (nat_eq k n) (want n) o) (before n)
    ∙ ap (λ (b : Bool). cond b (want n) (cond (list_any (nat_eq n) (take i ns)) (want n) None)) (turned k n)
    ∙ two (list_any (nat_eq n) (take i ns)) (nat_eq n k) ∙ sym (ap (λ (b : Bool). cond b (want n) None) (any_more n ns i k within at_i)) where
      two : (a b : Bool) → cond b (want n) (cond a (want n) None) ≡ cond (a || b) (want n) None
      two true true = refl
      two true false = refl
      two false true = refl
      two false false = refl

-- and one that has none
pub none_next : {X : Type 0} (want : ℕ → Option X) {old : ℕ → Option X} (ns : List ℕ) (i : ℕ) {k : ℕ} → i < length ns → get_or ns i k ≡ k →
    want k ≡ None → IsKept (take i ns) want old → IsKept (take (i + 1) ns) want old
none_next want ns i {k} within at_i none before n =
    before n ∙ by_test (list_any (nat_eq n) (take i ns)) (nat_eq n k) refl ∙ sym (ap (λ (b : Bool). cond b (want n) None) (any_more n ns i k within at_i)) where
      by_test : (a b : Bool) → nat_eq n k ≡ b → cond a (want n) None ≡ cond (a || b) (want n) None
      by_test true b is = refl
      by_test false true is = sym (ap want (eqb-true n k is) ∙ none)
      by_test false false is = refl

-- a value that is put for the number at a place
pub kept_put : {X : Type 0} (want old new : ℕ → Option X) (ns : List ℕ) (i : ℕ) (value : X) → i < length ns → want (get_or ns i 0) ≡ Some value →
    IsPut old (get_or ns i 0) value new → IsKept (take i ns) want old → IsKept (take (i + 1) ns) want new
kept_put want old new ns i value within is put =
    kept_next want ns i within (get_or_default_zero ns i (get_or ns i 0) within) (λ n. put n ∙ by_test n (nat_eq (get_or ns i 0) n) refl)
  where
    by_test : (n : ℕ) (b : Bool) → nat_eq (get_or ns i 0) n ≡ b → cond b (Some value) (old n) ≡ cond b (want n) (old n)
    by_test n true same = sym is ∙ ap want (eqb-true (get_or ns i 0) n same)
    by_test n false apart = refl

pub none_put : {X : Type 0} (want old : ℕ → Option X) (ns : List ℕ) (i : ℕ) → i < length ns → want (get_or ns i 0) ≡ None →
    IsKept (take i ns) want old → IsKept (take (i + 1) ns) want old
none_put want old ns i within none = none_next want ns i within (get_or_default_zero ns i (get_or ns i 0) within) none

-- and all of them
pub kept_all : {X : Type 0} (want new : ℕ → Option X) (ns : List ℕ) (i : ℕ) → length ns ≤ i → IsKept (take i ns) want new → IsKept ns want new
kept_all want new ns i past all n = all n ∙ ap (λ (ms : List ℕ). cond (list_any (nat_eq n) ms) (want n) None) (take_all i ns past)

-- a test on one number more is counted, where it is counted in a number that fits
pub counted_more : (p : ℕ → Bool) (ns : List ℕ) (i : ℕ) (b : Bool) (was now : ℕ) → i < length ns → i < 18446744073709551615 → p (get_or ns i 0) ≡ b →
    was ≡ count_by p (take i ns) → (was < 18446744073709551615 → now ≡ was + cond b 1 0) → now ≡ count_by p (take (i + 1) ns)
counted_more p ns i b was now within small is so_far more =
    let most = count_by-le-length p (take i ns) in
    let long = length-take-le i ns (omega arith) in
    let one : cond (p (get_or ns i 0)) 1 0 + 0 ≡ cond (p (get_or ns i 0)) 1 0 = omega arith in
    let next : count_by p (take (i + 1) ns) ≡ count_by p (take i ns) + cond (p (get_or ns i 0)) 1 0 =
    ap (count_by p) (take_more ns i 0 within) ∙ sum_by-append (λ m. cond (p m) 1 0) (take i ns) (get_or ns i 0 ∷ [])
    ∙ ap (λ (k : ℕ). count_by p (take i ns) + k) (sum_by-cons (λ m. cond (p m) 1 0) (get_or ns i 0) [] ∙ one) in
    more (omega arith) ∙ ap (λ (k : ℕ). k + cond b 1 0) so_far ∙ sym (next ∙ ap (λ (c : Bool). count_by p (take i ns) + cond c 1 0) is)
