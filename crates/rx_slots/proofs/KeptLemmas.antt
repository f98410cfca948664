-- What the free slots are while values come and go.
use Rattle.rx_slots.proofs.Common.{List, ◌≡◌, ◌≢◌, ◌⊎◌, ℕ, ◌+◌, ◌-◌, ◌<◌, ◌≤◌, [], ◌∷◌, ◌++◌, length, get_or, set, replicate, Option, Some, None, is_some, ap}
use Rattle.rx_slots.proofs.Common.{option_map, slice_get, IsSome, count_by, cond, refl, sym, subst, ◌∙◌, inl, inr, arith, true≢false, cases_eq, cases_lt}
use Rattle.rx_slots.proofs.Common.{get_or_from_slice_get, get_or_past, get_or-set_same, get_or-set_other, length-set, length_push, get_or_push, set_at, Entry}
use Rattle.rx_slots.proofs.Common.{get_or_append_left, append-nil, sum_by-append, sum_by-set, IsWithin, placed, last_or, shown, IsKept}
use Rattle.rx_slots.proofs.Laws.EntryByNumber.{found_there}
use Rattle.std.proofs.Common.{rules}

pub last_or-push : (further : ℕ) (slots : List ℕ) (slot : ℕ) → last_or further (slots ++ slot ∷ []) ≡ slot
last_or-push further [] slot = refl
last_or-push further (x ∷ slots) slot = last_or-push x slots slot

last_is : (x : ℕ) (xs : List ℕ) → last_or x xs ≡ get_or (x ∷ xs) (length xs) 0
last_is x [] = refl
last_is x (y ∷ ys) = last_is y ys

-- the last of slots by its index
pub last_or_at : (further : ℕ) (slots : List ℕ) (slot : ℕ) → Some slot ≡ slice_get slots (length slots - 1) → slot ≡ last_or further slots
last_or_at further [] slot at = absurd (true≢false (ap is_some at))
last_or_at further (x ∷ xs) slot at =
    let last : length (x ∷ xs) - 1 ≡ length xs = omega arith in
    sym (get_or_from_slice_get (x ∷ xs) (length xs) slot 0 (sym (at ∙ ap (slice_get (x ∷ xs)) last))) ∙ sym (last_is x xs)

module _ {T : Type 0} where
  -- what a cell adds to the count of values
  abbrev weight : Option (Entry T) → ℕ
  weight at = cond (is_some at) 1 0

  count_push : (cells : List (Option (Entry T))) (e : Entry T) → count_by is_some (cells ++ Some e ∷ []) ≡ count_by is_some cells + 1
  count_push cells e = sum_by-append weight cells (Some e ∷ [])

  -- a slot with a value is one that was used
  pub below_length : (cells : List (Option (Entry T))) (slot : ℕ) → IsSome (get_or cells slot None) → slot < length cells
  below_length cells slot there =
      search (rules, cases_lt, length, true≢false, is_some, get_or_past)

  pub placed_next : (cells : List (Option (Entry T))) (e : Entry T) → cells ++ Some e ∷ [] ≡ placed cells (length cells) e
  placed_next cells e =
      search (rules, length, set, replicate, set_at)

  pub placed_within : (cells : List (Option (Entry T))) (slot : ℕ) (e : Entry T) → slot < length cells → set cells slot (Some e) ≡ placed cells slot e
  placed_within cells slot e within =
      search (rules, length, set, replicate, append-nil)

  -- how many have a value where one cell changes
  counted_set : (cells : List (Option (Entry T))) (slot : ℕ) (at : Option (Entry T)) → slot < length cells →
      count_by is_some (set cells slot at) + weight (get_or cells slot None) ≡ count_by is_some cells + weight at
  counted_set cells slot at within = sum_by-set weight cells slot at None within

  module _ (cells : List (Option (Entry T))) (free : List ℕ) (capacity cells_fit free_fit : ℕ) (kept : IsKept cells free capacity cells_fit free_fit) where
    pub free_few : length free ≤ length cells
    free_few = let counted = kept.counted in omega arith

    pub count_is : length cells - length free ≡ count_by is_some cells
    count_is = let counted = kept.counted in omega arith

    pub within_shown : IsWithin (shown cells free capacity)
    within_shown key found =
        let below = below_length cells key.slot (found_there (shown cells free capacity) key found) in
        let within = kept.within in
        omega (arith, below, within, free_few)

    -- the next slot has no value
    pub next_free : get_or cells (last_or (length cells) free) None ≡ None
    next_free = of free refl where
      of : (slots : List ℕ) → slots ≡ free → get_or cells (last_or (length cells) slots) None ≡ None
      of [] same = get_or_past cells (length cells) None (omega arith)
      of (x ∷ xs) same =
          let at : last_or x xs ≡ get_or free (length xs) 0 = last_is x xs ∙ ap (λ (ys : List ℕ). get_or ys (length xs) 0) same in
          ap (λ k. get_or cells k None) at ∙ (kept.vacant (length xs) (omega (arith, ap length same))).1

    -- and is one of those that there may be, or the first beyond
    pub next_small : last_or (length cells) free ≤ 536870912
    next_small = of free refl where
      of : (slots : List ℕ) → slots ≡ free → last_or (length cells) slots ≤ 536870912
      of [] same =
          let most = kept.most in
          let within = kept.within in
          omega (arith, most, within)
      of (x ∷ xs) same =
          let most = kept.most in
          let within = kept.within in
          let at : last_or x xs ≡ get_or free (length xs) 0 = last_is x xs ∙ ap (λ (ys : List ℕ). get_or ys (length xs) 0) same in
          let below = (kept.vacant (length xs) (omega (arith, ap length same))).0 in
          omega (arith, most, within, at, below)

    -- more room
    pub kept_wider : (more cells_more free_more : ℕ) → capacity ≤ more → more ≤ 536870912 → more ≤ cells_more → more ≤ free_more →
        IsKept cells free more cells_more free_more
    kept_wider more cells_more free_more wider most cells_in free_in =
        record {
          most = most;
          cells_in = cells_in;
          free_in = free_in;
          within = let within = kept.within in omega (arith, within, wider);
          counted = kept.counted;
          vacant = kept.vacant;
          once = kept.once;
        }

    -- a value at a further slot
    pub kept_pushed : (e : Entry T) → free ≡ [] → length cells < capacity → IsKept (cells ++ Some e ∷ []) [] capacity cells_fit free_fit
    kept_pushed e none room =
        let counted = kept.counted in
        let empty : length free ≡ 0 = ap length none in
        record {
          most = kept.most;
          cells_in = kept.cells_in;
          free_in = kept.free_in;
          within = omega (arith, room, length_push cells (Some e));
          counted = omega (arith, counted, empty, count_push cells e, length_push cells (Some e));
          vacant = λ i few. absurd (omega (arith, few));
          once = λ i j less few. absurd (omega (arith, few));
        }

    -- a value at the slot that was free last
    module _ (rest : List ℕ) (slot : ℕ) (e : Entry T) (parts : free ≡ rest ++ slot ∷ []) where
      longer : length free ≡ length rest + 1
      longer = ap length parts ∙ length_push rest slot

      rest_at : (i : ℕ) → i < length rest → get_or free i 0 ≡ get_or rest i 0
      rest_at i few = ap (λ (xs : List ℕ). get_or xs i 0) parts ∙ get_or_append_left rest (slot ∷ []) 0 i few

      last_at : get_or free (length rest) 0 ≡ slot
      last_at = ap (λ (xs : List ℕ). get_or xs (length rest) 0) parts ∙ get_or_push rest slot 0 (length rest) refl

      last_vacant : (slot < length cells) × (get_or cells slot None ≡ None)
      last_vacant = subst (λ k. (k < length cells) × (get_or cells k None ≡ None)) last_at (kept.vacant (length rest) (omega (arith, longer)))

      pub reused_below : slot < length cells
      reused_below = last_vacant.0

      pub reused_free : get_or cells slot None ≡ None
      reused_free = last_vacant.1

      pub reused_next : last_or (length cells) free ≡ slot
      reused_next = ap (last_or (length cells)) parts ∙ last_or-push (length cells) rest slot

      pub kept_reused : IsKept (set cells slot (Some e)) rest capacity cells_fit free_fit
      kept_reused =
          let counted = kept.counted in
          let within = kept.within in
          let one : weight (get_or cells slot None) ≡ 0 = ap weight reused_free in
          let new : weight (Some e) ≡ 1 = refl in
          record {
            most = kept.most;
            cells_in = kept.cells_in;
            free_in = kept.free_in;
            within = omega (arith, within, length-set cells slot (Some e));
            counted = omega (arith, counted, longer, one, new, counted_set cells slot (Some e) reused_below, length-set cells slot (Some e));
            vacant = λ i few.
                let old = subst (λ k. (k < length cells) × (get_or cells k None ≡ None)) (rest_at i few) (kept.vacant i (omega (arith, few, longer))) in
                let apart : get_or rest i 0 ≢ slot = λ same. kept.once i (length rest) few (omega (arith, longer)) (rest_at i few ∙ same ∙ sym last_at) in (
                  omega (arith, old.0, length-set cells slot (Some e)),
                  get_or-set_other cells slot (get_or rest i 0) (Some e) None apart ∙ old.1,
                );
            once = λ i j less few same. kept.once i j less (omega (arith, few, longer)) (rest_at i (omega (arith, less, few)) ∙ same ∙ sym (rest_at j few));
          }

    -- a slot whose value is gone
    module _ (slot : ℕ) (there : IsSome (get_or cells slot None)) where
      taken_below : slot < length cells
      taken_below = below_length cells slot there

      one_more : weight (get_or cells slot None) ≡ 1
      one_more = ap (λ b. cond {A = ℕ} b 1 0) there

      one_less : count_by is_some (set cells slot None) + 1 ≡ count_by is_some cells
      one_less =
          let none : weight None ≡ 0 = refl in
          omega (arith, one_more, none, counted_set cells slot None taken_below)

      some_count : 0 < count_by is_some cells
      some_count = omega (arith, one_less)

      pub free_fits : length free < free_fit
      free_fits =
          let counted = kept.counted in
          let within = kept.within in
          let free_in = kept.free_in in
          omega (arith, counted, within, free_in, some_count)

      pub free_fewer : length free < length cells
      free_fewer = let counted = kept.counted in omega (arith, counted, some_count)

      pub slot_small : slot < 536870912
      slot_small =
          let within = kept.within in
          let most = kept.most in
          omega (arith, within, most, taken_below)

      still_vacant : (k : ℕ) → get_or cells k None ≡ None → get_or (set cells slot None) k None ≡ None
      still_vacant k old =
          elim (cases_eq k slot) [
            | inl same ↦ rw same (get_or-set_same cells slot None None taken_below)
            | inr apart ↦ get_or-set_other cells slot k None None apart ∙ old
          ]

      not_free : (i : ℕ) → i < length free → get_or free i 0 ≢ slot
      not_free i few same = true≢false (sym there ∙ ap is_some (ap (λ k. get_or cells k None) (sym same) ∙ (kept.vacant i few).1))

      pub kept_taken : IsKept (set cells slot None) (free ++ slot ∷ []) capacity cells_fit free_fit
      kept_taken =
          let counted = kept.counted in
          let within = kept.within in
          record {
            most = kept.most;
            cells_in = kept.cells_in;
            free_in = kept.free_in;
            within = omega (arith, within, length-set cells slot None);
            counted = omega (arith, counted, one_less, length-set cells slot None, length_push free slot);
            vacant = λ i few. elim (cases_lt i (length free)) [
              | inl old ↦ let at = get_or_append_left free (slot ∷ []) 0 i old in let was = kept.vacant i old in rw at (
                omega (arith, was.0, length-set cells slot None),
                still_vacant (get_or free i 0) was.1,
              )
              | inr past ↦ let last : length free ≡ i = omega (arith, past, few, length_push free slot) in rw (get_or_push free slot 0 i last) (
                omega (arith, taken_below, length-set cells slot None),
                get_or-set_same cells slot None None taken_below,
              )
            ];
            once = λ i j less few same. elim (cases_lt j (length free)) [
              | inl old ↦ kept.once i j less old (sym (get_or_append_left free (slot ∷ []) 0 i (omega (arith, less, old))) ∙ same ∙ get_or_append_left
                  free (slot ∷ []) 0 j old)
              | inr past ↦ let last : length free ≡ j = omega (arith, past, few, length_push free slot) in let before : i < length free = omega (
                arith,
                less,
                last,
              ) in
                  not_free i before (sym (get_or_append_left free (slot ∷ []) 0 i before) ∙ same ∙ get_or_push free slot 0 j last)
            ];
          }

    -- a value that is written over
    pub kept_written : (slot : ℕ) (e : Entry T) → IsSome (get_or cells slot None) → IsKept (set cells slot (Some e)) free capacity cells_fit free_fit
    kept_written slot e there =
        let counted = kept.counted in
        let within = kept.within in
        let below = below_length cells slot there in
        let one : weight (get_or cells slot None) ≡ 1 = ap (λ b. cond {A = ℕ} b 1 0) there in
        let new : weight (Some e) ≡ 1 = refl in
        record {
          most = kept.most;
          cells_in = kept.cells_in;
          free_in = kept.free_in;
          within = omega (arith, within, length-set cells slot (Some e));
          counted = omega (arith, counted, one, new, counted_set cells slot (Some e) below, length-set cells slot (Some e));
          vacant = λ i few.
              let old = kept.vacant i few in
              let apart : get_or free i 0 ≢ slot = λ same. true≢false (sym there ∙ ap is_some (ap (λ k. get_or cells k None) (sym same) ∙ old.1)) in (
                omega (arith, old.0, length-set cells slot (Some e)),
                get_or-set_other cells slot (get_or free i 0) (Some e) None apart ∙ old.1,
              );
          once = kept.once;
        }

    -- also where the entry that stands there is changed
    pub kept_changed : (slot : ℕ) (at : Option (Entry T)) (change : Entry T → Entry T) → at ≡ get_or cells slot None → IsSome (get_or cells slot None) →
        IsKept (set cells slot (option_map change at)) free capacity cells_fit free_fit
    kept_changed slot None change read there = absurd (true≢false (sym there ∙ ap is_some (sym read)))
    kept_changed slot (Some e) change read there = kept_written slot (change e) there

-- a `&mut` leaves what two functions that agree everywhere say alike
pub same_loan : {G W S : Type 0} (name : G) (f g : W → S) → ((w : W) → f w ≡ g w) → ◌≡◌ {A = (G × (W → S)) ⊎ S} (inl (name, f)) (inl (name, g))
same_loan name f g same = λ i. inl (name, λ w. same w i)
