-- Lists of entries under numbers that rise.
use Rattle.std.proofs.Common.{◌≡◌, ℕ, ◌+◌, ◌<◌, Bool, true, false, cond, nat_eq, get_or, List, [], ◌∷◌, ◌++◌, length}
use Rattle.std.proofs.Common.{Some, None, All, refl, sym, ap, arith, rules}
use Rattle.std.proofs.lemmas.Bool.{cond_both}
use Rattle.std.proofs.lemmas.Bool.Decides.{nat_tests}
use Rattle.std.proofs.lemmas.Cmp.{nat_cmp_total, eq_by_cmp_equiv}
use Rattle.std.proofs.lemmas.List.Elements.{All-head}
use Rattle.std.proofs.lemmas.List.Elements.{All-tail, All-cons}
use Rattle.std.proofs.lemmas.Map.{lookup-remove_entry}
use Rattle.std.proofs.lemmas.Option.{slice_get-get_or}
use Rattle.std.proofs.lemmas.List.Sorted.{IsPermutation-cons, IsPermutation-insert, IsPermutation-refl, IsPermutation-sym, IsPermutation-trans}
use Rattle.std.proofs.lemmas.Map.Entries.{lookup_from_place}
use Rattle.std.proofs.lemmas.Map.Keys.{IsDistinct-from_sorted, sorted_head, sorted_tail}
use Rattle.std.specs.BTreeMap.{insert_entry}
use Rattle.std.specs.Cmp.{nat_cmp_is}
use Rattle.std.specs.List.{AllByRecursion}
use Rattle.std.specs.List.Sorted.{IsPermutation, IsStrictlySortedBy}
use Rattle.std.specs.Map.{lookup, remove_entry, keys_of}
use Rattle.std.specs.Option.{option_or}
use Rattle.std.specs.Ordering.{is_eq, nat_cmp}
use Rattle.std.specs.declared.cmp.Ordering.TheVariants.{Less, Greater}
use Rattle.rx_time.specs.declared.work.Work.{Work}
use Rattle.rx_time.specs.Schedule.{scheduled_items}

-- a search by `cmp` stops where one by `==` does
is_eq-nat_cmp : (t k : ℕ) → is_eq (nat_cmp t k) ≡ nat_eq t k
is_eq-nat_cmp t k = grind (arith, nat_tests)

module _ {X : Type 0} where
  pub lookup-nat_cmp : (t : ℕ) (es : List (ℕ × X)) → lookup (λ k. is_eq (nat_cmp t k)) es ≡ lookup (nat_eq t) es
  lookup-nat_cmp t [] = refl
  lookup-nat_cmp t (e ∷ es) = rw (is_eq-nat_cmp t e.0, lookup-nat_cmp t es)

  pub remove_entry-nat_cmp : (t : ℕ) (es : List (ℕ × X)) → remove_entry (λ k. is_eq (nat_cmp t k)) es ≡ remove_entry (nat_eq t) es
  remove_entry-nat_cmp t [] = refl
  remove_entry-nat_cmp t (e ∷ es) = rw (is_eq-nat_cmp t e.0, remove_entry-nat_cmp t es)

  -- a key above all others goes last
  pub insert_entry-last : (es : List (ℕ × X)) (k : ℕ) (v : X) → All (λ e. e.0 < k) es → insert_entry nat_cmp es k v ≡ es ++ (k, v) ∷ []
  insert_entry-last [] k v below = refl
  insert_entry-last (e ∷ es) k v below =
      let above : nat_cmp k e.0 ≡ Greater = sym (nat_cmp_is k e.0 Greater (All-head (λ e. e.0 < k) e es below)) in
      rw (above, insert_entry-last es k v (All-tail (λ e. e.0 < k) e es below))

  pub lookup-past : (es : List (ℕ × X)) (k : ℕ) → All (λ e. e.0 < k) es → lookup (nat_eq k) es ≡ None
  lookup-past [] k below = refl
  lookup-past (e ∷ es) k below =
      let apart : e.0 < k = All-head (λ e. e.0 < k) e es below in
      let rest = lookup-past es k (All-tail (λ e. e.0 < k) e es below) in
      grind (arith, nat_tests)

  pub lookup-last : (es : List (ℕ × X)) (q k : ℕ) (v : X) → All (λ e. e.0 < k) es
      → lookup (nat_eq q) (es ++ (k, v) ∷ []) ≡ cond (nat_eq q k) (Some v) (lookup (nat_eq q) es)
  lookup-last [] q k v below = refl
  lookup-last (e ∷ es) q k v below =
      let apart : e.0 < k = All-head (λ e. e.0 < k) e es below in
      let rest = lookup-last es q k v (All-tail (λ e. e.0 < k) e es below) in
      grind (arith, nat_tests)

  pub All-remove_entry : (P : ℕ × X → Type 0) (test : ℕ → Bool) (es : List (ℕ × X)) → All P es → All P (remove_entry test es)
  All-remove_entry P test [] all = all
  All-remove_entry P test (e ∷ es) all =
      let rest : All P es = All-tail P e es all in
      search (rules, cond_both, All, All-cons, All-head, All-remove_entry P test es rest)

  -- what the others find where one entry is gone
  pub lookup-without : (t q : ℕ) (es : List (ℕ × X)) → IsStrictlySortedBy nat_cmp (keys_of es)
      → lookup (nat_eq q) (remove_entry (nat_eq t) es) ≡ cond (nat_eq t q) None (lookup (nat_eq q) es)
  lookup-without t q es ascending =
      let one : (x y : ℕ) → is_eq (nat_cmp t x) ≡ true → is_eq (nat_cmp t y) ≡ is_eq (nat_cmp x y) = λ x y h. grind (arith, nat_tests) in
      let by_cmp = lookup-remove_entry (eq_by_cmp_equiv nat_cmp_total)
      (λ k. is_eq (nat_cmp t k)) one q es (IsDistinct-from_sorted nat_cmp (keys_of es) ascending) in
      rw (← remove_entry-nat_cmp t es, ← lookup-nat_cmp q (remove_entry (λ k. is_eq (nat_cmp t k)) es), ← lookup-nat_cmp q es, ← is_eq-nat_cmp t q) by_cmp

  -- what is found among keys that are all above a number has a key above it
  pub above_from_lookup : (n q : ℕ) (v : X) (es : List (ℕ × X)) → AllByRecursion (λ k. nat_cmp n k ≡ Less) (keys_of es) → lookup (nat_eq q) es ≡ Some v → n < q
  above_from_lookup n q v [] above found = cc
  above_from_lookup n q v (e ∷ es) above found =
      let first : nat_cmp n e.0 ≡ Less = above.0 in
      elim (nat_eq q e.0) as (λ b. nat_eq q e.0 ≡ b → n < q)
      [ true ↦ λ same. grind (arith, nat_tests) | false ↦ λ apart. above_from_lookup n q v es above.1 (rw apart at found) ] refl

  -- each entry is found under its key
  pub All-looked_up : (es : List (ℕ × X)) → IsStrictlySortedBy nat_cmp (keys_of es) → All (λ e. lookup (nat_eq e.0) es ≡ Some e.1) es
  All-looked_up es ascending = λ i d within.
      let e : ℕ × X = get_or es i d in
      rw (lookup-nat_cmp e.0 es) at
      (lookup_from_place (eq_by_cmp_equiv nat_cmp_total) es i e.0 e.1
      (IsDistinct-from_sorted nat_cmp (keys_of es) ascending) (slice_get-get_or es i d within))

  -- the entries in front are searched first
  pub lookup-append : (test : ℕ → Bool) (es fs : List (ℕ × X)) → lookup test (es ++ fs) ≡ option_or (lookup test es) (lookup test fs)
  lookup-append test [] fs = refl
  lookup-append test (e ∷ es) fs =
      search (rules, cond, Some, lookup-append test es fs)

  pub remove_entry-front : (test : ℕ → Bool) (es fs : List (ℕ × X)) (v : X) → lookup test es ≡ Some v
      → remove_entry test (es ++ fs) ≡ remove_entry test es ++ fs
  remove_entry-front test [] fs v found = cc
  remove_entry-front test (e ∷ es) fs v found =
      elim (test e.0) as (λ b. cond b (Some e.1) (lookup test es) ≡ Some v
      → cond b (es ++ fs) (e ∷ remove_entry test (es ++ fs)) ≡ cond b es (e ∷ remove_entry test es) ++ fs)
      [ true ↦ λ here. refl | false ↦ λ later. ap (λ (l : List (ℕ × X)). e ∷ l) (remove_entry-front test es fs v later) ] found

  pub remove_entry-back : (test : ℕ → Bool) (es fs : List (ℕ × X)) → lookup test es ≡ None
      → remove_entry test (es ++ fs) ≡ es ++ remove_entry test fs
  remove_entry-back test [] fs absent = refl
  remove_entry-back test (e ∷ es) fs absent =
      elim (test e.0) as (λ b. cond b (Some e.1) (lookup test es) ≡ None
      → cond b (es ++ fs) (e ∷ remove_entry test (es ++ fs)) ≡ e ∷ es ++ remove_entry test fs)
      [ true ↦ λ here. cc | false ↦ λ rest. ap (λ (l : List (ℕ × X)). e ∷ l) (remove_entry-back test es fs rest) ] absent

  pub remove_entry-absent : (test : ℕ → Bool) (es : List (ℕ × X)) → lookup test es ≡ None → remove_entry test es ≡ es
  remove_entry-absent test [] absent = refl
  remove_entry-absent test (e ∷ es) absent =
      elim (test e.0) as (λ b. cond b (Some e.1) (lookup test es) ≡ None → cond b es (e ∷ remove_entry test es) ≡ e ∷ es)
      [ true ↦ λ here. cc | false ↦ λ rest. ap (λ (l : List (ℕ × X)). e ∷ l) (remove_entry-absent test es rest) ] absent

  -- one entry less
  pub length-remove_entry : (test : ℕ → Bool) (es : List (ℕ × X)) (v : X) → lookup test es ≡ Some v → length (remove_entry test es) + 1 ≡ length es
  length-remove_entry test [] v found = cc
  length-remove_entry test (e ∷ es) v found =
      elim (test e.0) as (λ b. cond b (Some e.1) (lookup test es) ≡ Some v → length (cond b es (e ∷ remove_entry test es)) + 1 ≡ length (e ∷ es))
      [ true ↦ λ here. omega arith | false ↦ λ later. omega (arith, length-remove_entry test es v later) ] found

  -- numbers that rise still do with one less, and with one more that is above all
  below-remove_entry : (n : ℕ) (test : ℕ → Bool) (es : List (ℕ × X)) → AllByRecursion (λ k. nat_cmp n k ≡ Less) (keys_of es)
      → AllByRecursion (λ k. nat_cmp n k ≡ Less) (keys_of (remove_entry test es))
  below-remove_entry n test [] below = below
  below-remove_entry n test (e ∷ es) below =
      search (rules, cond_both, below-remove_entry n test es below.1)

  pub sorted-remove_entry : (test : ℕ → Bool) (es : List (ℕ × X)) → IsStrictlySortedBy nat_cmp (keys_of es)
      → IsStrictlySortedBy nat_cmp (keys_of (remove_entry test es))
  unfolding IsStrictlySortedBy
  sorted-remove_entry test [] ascending = ascending
  sorted-remove_entry test (e ∷ es) ascending =
      cond_both (test e.0) es (e ∷ remove_entry test es) (λ l. IsStrictlySortedBy nat_cmp (keys_of l)) (λ _. ascending.1)
      (λ _. (below-remove_entry e.0 test es ascending.0, sorted-remove_entry test es ascending.1))

  below-push : (n k : ℕ) (v : X) (es : List (ℕ × X)) → AllByRecursion (λ k. nat_cmp n k ≡ Less) (keys_of es) → n < k
      → AllByRecursion (λ k. nat_cmp n k ≡ Less) (keys_of (es ++ (k, v) ∷ []))
  below-push n k v [] below less = (sym (nat_cmp_is n k Less less), below)
  below-push n k v (e ∷ es) below less = (below.0, below-push n k v es below.1 less)

  pub sorted-push : (es : List (ℕ × X)) (k : ℕ) (v : X) → IsStrictlySortedBy nat_cmp (keys_of es) → All (λ e. e.0 < k) es
      → IsStrictlySortedBy nat_cmp (keys_of (es ++ (k, v) ∷ []))
  unfolding IsStrictlySortedBy
  sorted-push [] k v ascending above = (tt, tt)
  sorted-push (e ∷ es) k v ascending above =
      (below-push e.0 k v es ascending.0 (All-head (λ e. e.0 < k) e es above), sorted-push es k v ascending.1 (All-tail (λ e. e.0 < k) e es above))

  -- among numbers that rise, what is found behind is not found in front
  pub lookup-not_in_front : (q : ℕ) (v : X) (es fs : List (ℕ × X)) → IsStrictlySortedBy nat_cmp (keys_of (es ++ fs))
      → lookup (nat_eq q) fs ≡ Some v → lookup (nat_eq q) es ≡ None
  lookup-not_in_front q v [] fs ascending found = refl
  lookup-not_in_front q v (e ∷ es) fs ascending found =
      let rest = lookup-not_in_front q v es fs (sorted_tail nat_cmp e.0 (keys_of (es ++ fs)) ascending) found in
      let behind : lookup (nat_eq q) (es ++ fs) ≡ Some v = rw (lookup-append (nat_eq q) es fs, rest) found in
      let above : e.0 < q = above_from_lookup e.0 q v (es ++ fs) (sorted_head nat_cmp e.0 (keys_of (es ++ fs)) ascending) behind in
      grind (arith, nat_tests)

-- the item of an entry, and those of the others, are all items
pub scheduled_items-without : {T : Type 0} (t : ℕ) (w : Work T) (es : List (ℕ × Work T))
    → lookup (nat_eq t) es ≡ Some w → IsPermutation (scheduled_items es) (w.item ∷ scheduled_items (remove_entry (nat_eq t) es))
scheduled_items-without t w [] found = cc
scheduled_items-without t w (e ∷ es) found =
    elim (nat_eq t e.0) as
    (λ b. nat_eq t e.0 ≡ b → IsPermutation (scheduled_items (e ∷ es)) (w.item ∷ scheduled_items (cond b es (e ∷ remove_entry (nat_eq t) es)))) [
      | true ↦ λ same.
          let here : Some e.1 ≡ Some w = rw same at found in
          let is : w ≡ e.1 = cc in
          rw is (IsPermutation-refl (scheduled_items (e ∷ es)))
      | false ↦ λ apart.
          let rest = scheduled_items (remove_entry (nat_eq t) es) in
          let later = scheduled_items-without t w es (rw apart at found) in
          let exchange = IsPermutation-sym (w.item ∷ e.1.item ∷ rest) (e.1.item ∷ w.item ∷ rest) (IsPermutation-insert (e.1.item ∷ rest) 1 w.item) in
          IsPermutation-trans (scheduled_items (e ∷ es)) (e.1.item ∷ w.item ∷ rest) (w.item ∷ e.1.item ∷ rest)
          (IsPermutation-cons e.1.item (scheduled_items es) (w.item ∷ rest) later) exchange
    ] refl
