-- Lists that lead from one number that passes a test to its neighbours: one number less, and one more.
use Rattle.rx_audit.proofs.Common.{◌≡◌, ◌≢◌, ℕ, zero, suc, ◌-◌, ◌<◌, ◌≤◌, Bool, true, false, List, length, refl, sym, ap, ◌∙◌, arith, inl, inr, ◌⊎◌, get_or}
use Rattle.rx_audit.proofs.Common.{set, get_or-set_other, get_or-set_same, length-set, cases_order, both_ways, last_below, table_with, IsRow}
use Rattle.rx_audit.proofs.Common.{number_by_word, cases_lt, subst, false_from_ne_true, ⊎_elim, cases_eq}
use Rattle.rx_audit.specs.HubTables.{IsNext}
use Rattle.rx_audit.proofs.Latest.{last_le, last_holds, last_none, last_same}
use Rattle.std.proofs.Common.{rules}

-- the last number below the bound is told by what stands after it
pub last_unique : (p : ℕ → Bool) (k v : ℕ) → v ≤ k → ((j : ℕ) → v ≤ j → j < k → p j ≡ false) → ((j : ℕ) → v ≡ suc j → p j ≡ true) → last_below p k ≡ v
last_unique p k v le none some = ⊎_elim (λ same. same) (⊎_elim
    (λ l. absurd (both_ways (p (v - 1)) (last_none p k (v - 1) (omega arith) (omega arith)) (some (v - 1) (omega arith))))
    (λ l. let most = last_le p k in absurd (both_ways (p (last_below p k - 1)) (none (last_below p k - 1) (omega arith) (omega arith))
    (last_holds p k (last_below p k - 1) (omega arith))))) (cases_order (last_below p k) v)

-- what passes q is what passes p but for s
pub record IsLess (p q : ℕ → Bool) (s : ℕ) : Type 0 where
  pub same : (k : ℕ) → k ≢ s → q k ≡ p k
  pub gone : q s ≡ false
  pub here : p s ≡ true

-- what passes is below the bound, and both lists have a place for it
pub record HasRoom (p : ℕ → Bool) (bound : ℕ) (before after : List ℕ) : Type 0 where
  pub below : (k : ℕ) → p k ≡ true → k < bound
  pub in_before : (k : ℕ) → p k ≡ true → k < length before
  pub in_after : (k : ℕ) → p k ≡ true → k < length after

module _ {p q : ℕ → Bool} {s : ℕ} (less : IsLess p q s) where
  off : (k : ℕ) → q k ≡ true → k ≢ s
  off k y is = both_ways (q k) (ap q is ∙ less.gone) y

  was : (k : ℕ) → q k ≡ true → p k ≡ true
  was k y = sym (less.same k (off k y)) ∙ y

  none_still : (k : ℕ) → p k ≡ false → q k ≡ false
  none_still k none = search (rules, cases_order)

  last_still : (k : ℕ) → last_below p k ≢ suc s → last_below q k ≡ last_below p k
  last_still k apart = last_unique q k (last_below p k) (last_le p k) (λ j l m. none_still j (last_none p k j l m))
      (λ j e. less.same j (λ is. apart (e ∙ ap suc is)) ∙ last_holds p k j e)

  last_skips : (k : ℕ) → last_below p k ≡ suc s → last_below q k ≡ last_below p s
  last_skips k found = last_unique q k (last_below p s) (let a = last_le p s in let b = last_le p k in omega arith)
      (λ j l m. ⊎_elim (λ is. ap q is ∙ less.gone) (⊎_elim (λ below. none_still j (last_none p s j l below))
      (λ above. none_still j (last_none p k j (omega arith) m))) (cases_order j s))
      (λ j e. less.same j (λ is. absurd (let a = last_le p s in omega arith)) ∙ last_holds p s j e)

-- where s is taken off
pub row_less : {p q : ℕ → Bool} {s bound word now : ℕ} {before after : List ℕ} → IsLess p q s → HasRoom p bound before after → IsRow p bound word before after
    → (get_or after s 0 ≡ 0 → now ≡ get_or before s 0) → (0 < get_or after s 0 → now ≡ word)
    → IsRow q bound now (table_with before (number_by_word (get_or after s 0)) (get_or before s 0))
    (table_with after (number_by_word (get_or before s 0)) (get_or after s 0))
row_less {p} {q} {s} {bound} {now} {before} {after} less room row ends goes = record {
  top = by_word (get_or after s 0) refl;
  down = λ k y. before_is (get_or after s 0) refl k y;
  up = λ k y. after_is (get_or before s 0) refl k y;
} where
  next : IsNext p s (get_or after s 0)
  next = row.up s less.here

  prior : get_or before s 0 ≡ last_below p s
  prior = row.down s less.here

  -- nothing follows s
  ends_here : get_or after s 0 ≡ 0 → last_below p bound ≡ suc s
  ends_here none = last_unique p bound (suc s) (room.below s less.here) (λ j l m. false_from_ne_true (p j) (λ y. let n = next.none none j y in omega arith))
      (λ j e. let is : j ≡ s = omega arith in ap p is ∙ less.here)

  -- m follows s
  below_is : (m : ℕ) → get_or after s 0 ≡ suc m → last_below p m ≡ suc s
  below_is m e = (next.some m e).1

  by_word : (a : ℕ) → get_or after s 0 ≡ a → now ≡ last_below q bound
  by_word zero e = ends e ∙ prior ∙ sym (last_skips less bound (ends_here e))
  by_word (suc m) e = goes (omega arith) ∙ row.top ∙ sym (last_still less bound (λ is. let l = last_le p m in let b = below_is m e in
      both_ways (p m) (last_none p bound m (omega arith) (room.below m (next.some m e).0)) (next.some m e).0))

  -- nothing else than m has s before it
  alone : (m k : ℕ) → get_or after s 0 ≡ suc m → p k ≡ true → k ≢ m → last_below p k ≢ suc s
  alone m k e y apart is = let b = below_is m e in let t = last_le p k in let u = last_le p m in ⊎_elim apart (⊎_elim
      (λ l. both_ways (p k) (last_none p m k (omega arith) l) y) (λ l. both_ways (p m) (last_none p k m (omega arith) l) (next.some m e).0)) (cases_order k m)

  before_is : (a : ℕ) → get_or after s 0 ≡ a → (k : ℕ) → q k ≡ true → get_or (table_with before (number_by_word a) (get_or before s 0)) k 0 ≡ last_below q k
  before_is zero e k y = row.down k (was less k y) ∙ sym (last_still less k (λ is. let l = last_le p k in
      let m = next.none e k (was less k y) in omega arith))
  before_is (suc m) e k y = ⊎_elim
      (λ is. ap (λ j. get_or (set before m (get_or before s 0)) j 0) is ∙ get_or-set_same before m (get_or before s 0) 0 (room.in_before m (next.some m e).0)
      ∙ prior ∙ sym (ap (last_below q) is ∙ last_skips less m (below_is m e)))
      (λ apart. get_or-set_other before m k (get_or before s 0) 0 apart ∙ row.down k (was less k y)
      ∙ sym (last_still less k (alone m k e (was less k y) apart))) (cases_eq k m)

  -- what led elsewhere than to s still does
  stays : (k : ℕ) → q k ≡ true → last_below p s ≢ suc k → IsNext q k (get_or after k 0)
  stays k y apart = let w : IsNext p k (get_or after k 0) = row.up k (was less k y) in record {
    none = λ e m z. w.none e m (was less m z);
    some = λ m e. let found = w.some m e in (
      less.same m (λ is. apart (ap (last_below p) (sym is) ∙ found.1)) ∙ found.0,
      last_still less m (λ is. off less k y (let t : suc k ≡ suc s = sym found.1 ∙ is in omega arith)) ∙ found.1,
    );
  }

  -- what led to s leads where s led
  joins : (k : ℕ) → q k ≡ true → last_below p s ≡ suc k → IsNext q k (get_or after s 0)
  joins k y is = record {
    none = λ e m z. ⊎_elim (λ equal. absurd (off less m z equal)) (⊎_elim
        (λ l. ⊎_elim (λ b. absurd (both_ways (p m) (last_none p s m (omega arith) l) (was less m z))) (λ b. b) (cases_lt k m))
        (λ l. absurd (let t = next.none e m (was less m z) in omega arith))) (cases_order m s);
    some = λ m e. let b = below_is m e in let t = last_le p m in (less.same m (omega arith) ∙ (next.some m e).0, last_skips less m b ∙ is);
  }

  after_is : (b : ℕ) → get_or before s 0 ≡ b → (k : ℕ) → q k ≡ true → IsNext q k (get_or (table_with after (number_by_word b) (get_or after s 0)) k 0)
  after_is zero e k y = stays k y (λ is. absurd (let t : 0 ≡ suc k = sym e ∙ prior ∙ is in omega arith))
  after_is (suc m) e k y = ⊎_elim (λ is. subst (IsNext q k) (sym (ap (λ j. get_or (set after j (get_or after s 0)) k 0) (sym is)
      ∙ get_or-set_same after k (get_or after s 0) 0 (room.in_after k (was less k y)))) (joins k y (sym prior ∙ e ∙ ap suc (sym is))))
      (λ apart. subst (IsNext q k) (sym (get_or-set_other after m k (get_or after s 0) 0 apart))
      (stays k y (λ is. apart (let t : suc k ≡ suc m = sym is ∙ sym prior ∙ e in omega arith)))) (cases_eq k m)

-- where the bound itself comes on the list
pub row_more : {p : ℕ → Bool} (q : ℕ → Bool) {n word : ℕ} {before after : List ℕ} → ((k : ℕ) → k < n → q k ≡ p k) → q n ≡ true → ((k : ℕ) → q k ≡ true → k ≤ n)
    → ((k : ℕ) → p k ≡ true → k < n) → n < length before → n < length after → IsRow p n word before after
    → IsRow q (suc n) (suc n) (set before n word) (table_with (set after n 0) (number_by_word word) (suc n))
row_more {p} q {n} {word} {before} {after} same new most within before_room after_room row = record {
  top = sym (last_unique q (suc n) (suc n) (omega arith) (λ j l m. absurd (omega arith)) (λ j e. let is : j ≡ n = omega arith in ap q is ∙ new));
  down = λ k y. down_is k y (cases_order k n);
  up = λ k y. up_is word refl k y (cases_order k n);
} where
  early : (k : ℕ) → k ≤ n → last_below q k ≡ last_below p k
  early k l = last_same q p k (λ j m. same j (omega arith))

  down_is : (k : ℕ) → q k ≡ true → (k ≡ n) ⊎ ((k < n) ⊎ (n < k)) → get_or (set before n word) k 0 ≡ last_below q k
  down_is k y (inl is) =
      ap (λ j. get_or (set before n word) j 0) is ∙ get_or-set_same before n word 0 before_room ∙ row.top ∙ sym (ap (last_below q) is ∙ early n (omega arith))
  down_is k y (inr (inl l)) = get_or-set_other before n k word 0 (omega arith) ∙ row.down k (sym (same k l) ∙ y) ∙ sym (early k (omega arith))
  down_is k y (inr (inr l)) = absurd (let m = most k y in omega arith)

  -- what is below the word of the top is not the bound
  word_below : (m : ℕ) → word ≡ suc m → m < n
  word_below m e = let l = last_le p n in let t = row.top in omega arith

  up_last : IsNext q n 0
  up_last = record { none = λ e m z. most m z; some = λ m e. absurd (omega arith) }

  up_new : (k : ℕ) → k < n → word ≡ suc k → IsNext q k (suc n)
  up_new k l is = record {
    none = λ e m z. absurd (omega arith);
    some = λ m e. let at_n : m ≡ n = omega arith in (ap q at_n ∙ new, ap (last_below q) at_n ∙ early n (omega arith) ∙ sym row.top ∙ is);
  }

  up_old : (k : ℕ) → k < n → q k ≡ true → word ≢ suc k → IsNext q k (get_or after k 0)
  up_old k l y apart = let w : IsNext p k (get_or after k 0) = row.up k (sym (same k l) ∙ y) in record {
    none = λ e m z. absurd (apart (row.top ∙ last_unique p n (suc k) l (λ j a b. false_from_ne_true (p j) (λ t. let u = w.none e j t in omega arith))
        (λ j is. let at_k : j ≡ k = omega arith in ap p at_k ∙ sym (same k l) ∙ y)));
    some = λ m e. let found = w.some m e in let b = within m found.0 in (same m b ∙ found.0, early m (omega arith) ∙ found.1);
  }

  up_is : (v : ℕ) → word ≡ v → (k : ℕ) → q k ≡ true → (k ≡ n) ⊎ ((k < n) ⊎ (n < k))
      → IsNext q k (get_or (table_with (set after n 0) (number_by_word v) (suc n)) k 0)
  up_is v e k y (inr (inr l)) = absurd (let m = most k y in omega arith)
  up_is zero e k y (inl is) = rw (ap (λ j. get_or (set after n 0) j 0) is ∙ get_or-set_same after n 0 0 after_room, is) up_last
  up_is zero e k y (inr (inl l)) = rw (get_or-set_other after n k 0 0 (omega arith)) (up_old k l y (omega arith))
  up_is (suc m) e k y (inl is) =
      let l = word_below m e in
      rw (
        get_or-set_other (set after n 0) m k (suc n) 0 (omega arith) ∙ ap (λ j. get_or (set after n 0) j 0) is ∙ get_or-set_same after n 0 0 after_room,
        is,
      ) up_last
  up_is (suc m) e k y (inr (inl l)) = let long = length-set after n 0 in ⊎_elim
      (λ is. subst (IsNext q k) (sym (ap (λ j. get_or (set (set after n 0) j (suc n)) k 0) (sym is)
      ∙ get_or-set_same (set after n 0) k (suc n) 0 (omega arith))) (up_new k l (e ∙ ap suc (sym is))))
      (λ apart. subst (IsNext q k) (sym (get_or-set_other (set after n 0) m k (suc n) 0 apart ∙ get_or-set_other after n k 0 0 (omega arith)))
      (up_old k l y (λ is. apart (omega arith)))) (cases_eq k m)

-- a row of numbers none of which is written to stays
pub row_apart : {p q : ℕ → Bool} {bound bound' word : ℕ} {before after : List ℕ} (down up : List ℕ)
    → ((k : ℕ) → q k ≡ p k) → bound ≤ bound' → ((k : ℕ) → p k ≡ true → k < bound)
    → ((k : ℕ) → p k ≡ true → get_or down k 0 ≡ get_or before k 0) → ((k : ℕ) → p k ≡ true → get_or up k 0 ≡ get_or after k 0)
    → IsRow p bound word before after → IsRow q bound' word down up
row_apart {p} {q} {bound} {bound'} {after} down up same longer within kept_down kept_up row = record {
  top = row.top ∙ last_unique p bound (last_below q bound') (below (last_below q bound') refl)
      (λ j l m. sym (same j) ∙ last_none q bound' j l (omega arith)) (λ j e. sym (same j) ∙ last_holds q bound' j e);
  down = λ k y. kept_down k (sym (same k) ∙ y) ∙ row.down k (sym (same k) ∙ y) ∙ sym (last_same q p k (λ j l. same j));
  up = λ k y. rw (kept_up k (sym (same k) ∙ y)) (next k (sym (same k) ∙ y));
} where
  below : (v : ℕ) → last_below q bound' ≡ v → v ≤ bound
  below zero e = omega arith
  below (suc j) e = let l = within j (sym (same j) ∙ last_holds q bound' j e) in omega arith

  next : (k : ℕ) → p k ≡ true → IsNext q k (get_or after k 0)
  next k y = let w = row.up k y in record {
    none = λ e m z. w.none e m (sym (same m) ∙ z);
    some = λ m e. (same m ∙ (w.some m e).0, last_same q p m (λ j l. same j) ∙ (w.some m e).1);
  }
