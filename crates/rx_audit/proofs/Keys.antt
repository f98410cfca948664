-- Marks and counts by a key.
use Rattle.rx_audit.proofs.Common.{◌≡◌, ℕ, zero, suc, ◌+◌, ◌-◌, ◌<◌, ◌≤◌, Bool, false, List, [], ◌∷◌, length, Option, Some, None, arith}
use Rattle.rx_audit.proofs.Common.{◌≢◌, get_or, set, get_or-set_other, get_or-set_same, cond, add-zero, ◌||◌, length-set, cases_order, eq-eqb}
use Rattle.rx_audit.proofs.Common.{ne_eqb, marks_with, counts_with, counts_less, names_number, or_false, or_true, ⊎_elim, cases_eq}
use Rattle.std.proofs.Common.{rules}

pub length-marks_with : (ms : List Bool) (k : Option ℕ) → length (marks_with ms k) ≡ length ms
length-marks_with ms x1 = search (rules, length-set)

-- the mark of n after one key more
pub marks_with_at : (ms : List Bool) (k : Option ℕ) (n : ℕ) → n < length ms → get_or (marks_with ms k) n false ≡ (get_or ms n false || names_number k n)
marks_with_at ms x1 n l = search (rules, or_false, get_or, cases_order, set, get_or-set_other, ne_eqb, eq-eqb, get_or-set_same, or_true)

-- counts --------------------------------------------------------------------------------------------

pub length-counts_with : (cs : List ℕ) (k : Option ℕ) → length (counts_with cs k) ≡ length cs
length-counts_with cs x1 = search (rules, length-set)

-- the count of n after one key more
pub counts_with_at : (cs : List ℕ) (k : Option ℕ) (n : ℕ) → n < length cs → get_or (counts_with cs k) n 0 ≡ get_or cs n 0 + cond (names_number k n) 1 0
counts_with_at cs x1 n l = search (rules, add-zero, get_or, cases_order, set, cond, get_or-set_other, ne_eqb, eq-eqb, get_or-set_same)

pub counts_few : (cs : List ℕ) (k : Option ℕ) (n : ℕ) → get_or (counts_with cs k) n 0 ≤ get_or cs n 0 + 1
counts_few cs None n = omega arith
counts_few cs (Some r) n = ⊎_elim (λ same. rw same (at_set cs n))
    (λ apart. let ne : n ≢ r = omega arith in rw get_or-set_other (omega arith)) (cases_eq r n) where
      at_set : (cs : List ℕ) (n : ℕ) → get_or (set cs n (get_or cs n 0 + 1)) n 0 ≤ get_or cs n 0 + 1
      at_set [] n = omega arith
      at_set (c ∷ cs) zero = omega arith
      at_set (c ∷ cs) (suc n) = at_set cs n

-- counts that are one less
pub length-counts_less : (cs : List ℕ) (k : Option ℕ) → length (counts_less cs k) ≡ length cs
length-counts_less cs x1 = search (rules, length-set, get_or)

pub counts_less_at : (cs : List ℕ) (k : Option ℕ) (n : ℕ) → n < length cs → get_or (counts_less cs k) n 0 ≡ get_or cs n 0 - cond (names_number k n) 1 0
counts_less_at cs x1 n l = search (rules, cases_order, get_or, set, cond, get_or-set_other, ne_eqb, eq-eqb, get_or-set_same)

pub counts_less_few : (cs : List ℕ) (k : Option ℕ) (n : ℕ) → get_or (counts_less cs k) n 0 ≤ get_or cs n 0
counts_less_few cs None n = omega arith
counts_less_few cs (Some r) n = ⊎_elim (λ same. rw same (at_set cs n))
    (λ apart. let ne : n ≢ r = omega arith in rw get_or-set_other (omega arith)) (cases_eq r n) where
      at_set : (cs : List ℕ) (n : ℕ) → get_or (set cs n (get_or cs n 0 - 1)) n 0 ≤ get_or cs n 0
      at_set [] n = omega arith
      at_set (c ∷ cs) zero = omega arith
      at_set (c ∷ cs) (suc n) = at_set cs n
