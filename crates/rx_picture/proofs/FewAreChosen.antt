-- Marks of the numbers so far, and how many are chosen.
use Rattle.rx_picture.proofs.Common.{◌≡◌, ℕ, zero, suc, ◌+◌, ◌-◌, ◌<◌, ◌≤◌, min, Bool, cond, List, [], ◌∷◌, ◌++◌, length, refl, arith}
use Rattle.rx_picture.proofs.Common.{nat_lt, not, ◌&&◌, cases_lt, lt-ltb, le-ltb, length_push, bit, count_below, leads, follows, is_chosen}
use Rattle.rx_picture.proofs.Common.{marked, AreMarksByTest}
use Rattle.rx_picture.proofs.Ranges.{count_next}
use Rattle.std.proofs.Common.{rules}

-- marks -------------------------------------------------------------------------------------------

mark_old : (xs : List Bool) (y : Bool) (i : ℕ) → i < length xs → marked (xs ++ y ∷ []) i ≡ marked xs i
mark_old [] y i l = absurd (omega arith)
mark_old (x ∷ xs) y zero l = refl
mark_old (x ∷ xs) y (suc i) l = mark_old xs y i (omega arith)

mark_new : (xs : List Bool) (y : Bool) → marked (xs ++ y ∷ []) (length xs) ≡ y
mark_new [] y = refl
mark_new (x ∷ xs) y = mark_new xs y

pub marks_more : (marks : List Bool) (n : ℕ) (test : ℕ → Bool) (mark : Bool)
    → AreMarksByTest marks n test → mark ≡ test n → AreMarksByTest (marks ++ mark ∷ []) (n + 1) test
marks_more marks n test mark tied is = search (rules, length_push, ℕ, cases_lt, mark_old, length, mark_new)

-- room --------------------------------------------------------------------------------------------

-- no more than the limit are chosen -----------------------------------------------------------------

few_plain : (limit most a b : ℕ) (is_among is_first : Bool) →
    bit (is_among && nat_lt (cond is_first a (most + b)) limit) + (min limit a + min (limit - most) b)
    ≡ min limit (a + bit (is_among && is_first)) + min (limit - most) (b + bit (is_among && not is_first))
few_plain limit most a b x4 is_first = search (rules, cases_lt, nat_lt, min, lt-ltb, le-ltb)

module _ (first among : ℕ → Bool) (limit size : ℕ) where
  few_below : (n : ℕ) → count_below (is_chosen first among limit size) n
      ≡ min limit (count_below (leads first among) n) + min (limit - count_below (leads first among) size) (count_below (follows first among) n)
  few_below zero = omega arith
  few_below (suc n) =
      let more : n + 1 ≡ suc n = omega arith in
      let before = few_below n in
      let chosen = count_next (is_chosen first among limit size) n in
      let step = few_plain limit (count_below (leads first among) size) (count_below (leads first among) n) (count_below (follows first among) n)
      (among n) (first n) in
      let next : count_below (is_chosen first among limit size) (n + 1)
      ≡ min limit (count_below (leads first among) (n + 1)) + min (limit - count_below (leads first among) size) (count_below (follows first among) (n + 1)) =
      rw (count_next (leads first among) n, count_next (follows first among) n) (omega arith) in
      rw more at next

  pub few_chosen : count_below (is_chosen first among limit size) size ≤ limit
  few_chosen = let all = few_below size in omega arith
