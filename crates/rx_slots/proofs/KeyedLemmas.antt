-- What the keys of `Slots` tell of its cells while values come and go.
use Rattle.rx_slots.proofs.Common.{List, ◌≡◌, ℕ, suc, ◌+◌, ◌<◌, ◌≤◌, [], ◌∷◌, length, get_or, set, Option, Some, None, is_some, ap, cond}
use Rattle.rx_slots.proofs.Common.{IsSome, count_by, refl, sym, ◌∙◌, inl, inr, arith, false, true≢false, cases_eq, cases_lt, Slots}
use Rattle.rx_slots.proofs.Common.{get_or_past, get_or-set_same, get_or-set_other, length-set, Entry, IsWithin, placed, Changes}
use Rattle.rx_slots.proofs.Laws.EntryByNumber.{found_there}
use Rattle.rx_slots.proofs.KeptLemmas.{below_length}
use Rattle.rx_slots.proofs.SlotsLemmas.{length-placed, Changes-placed}
use Rattle.rx_slots.specs.Keyed.{shown_keyed, IsKeyed}
use Rattle.slab.specs.Slab.{Slab, get, slab_len, Updates, IsSlotClone}
use Rattle.std.specs.Prelude.{min}
use Rattle.std.specs.List.{AllZip}
use Rattle.std.proofs.lemmas.List.Sums.{sum_by-cons}

-- a copy of keys whose values are what they were is the same
pub same_slots : {K : Type 0} (xs ys : List (Option K)) → AllZip (IsSlotClone (λ x y. y ≡ x)) xs ys → ys ≡ xs
same_slots [] [] all = refl
same_slots [] (y ∷ ys) all = absurd all
same_slots (x ∷ xs) [] all = absurd all
same_slots (None ∷ xs) (y ∷ ys) all = λ i. all.0 i ∷ same_slots xs ys all.1 i
same_slots (Some x ∷ xs) (None ∷ ys) all = absurd all.0
same_slots (Some x ∷ xs) (Some y ∷ ys) all = λ i. Some (all.0 i) ∷ same_slots xs ys all.1 i

-- two lists that have values at the same places have as many
pub same_count : {A B : Type 0} (xs : List (Option A)) (ys : List (Option B)) → ((k : ℕ) → is_some (get_or xs k None) ≡ is_some (get_or ys k None)) →
    count_by is_some xs ≡ count_by is_some ys
same_count {A} {B} [] [] same = refl
same_count {A} {B} [] (y ∷ ys) same =
    let weight : Option B → ℕ = λ at. cond (is_some at) 1 0 in
    let head : weight y ≡ 0 = ap (λ b. cond {A = ℕ} b 1 0) (sym (same 0)) in
    omega (arith, head, same_count {A = A} {B = B} [] ys (λ k. same (suc k)), sum_by-cons weight y ys)
same_count {A} {B} (x ∷ xs) [] same =
    let weight : Option A → ℕ = λ at. cond (is_some at) 1 0 in
    let head : weight x ≡ 0 = ap (λ b. cond {A = ℕ} b 1 0) (same 0) in
    omega (arith, head, same_count {A = A} {B = B} xs [] (λ k. same (suc k)), sum_by-cons weight x xs)
same_count {A} {B} (x ∷ xs) (y ∷ ys) same =
    let one : Option A → ℕ = λ at. cond (is_some at) 1 0 in
    let other : Option B → ℕ = λ at. cond (is_some at) 1 0 in
    let head : one x ≡ other y = ap (λ b. cond {A = ℕ} b 1 0) (same 0) in
    omega (arith, head, same_count {A = A} {B = B} xs ys (λ k. same (suc k)), sum_by-cons one x xs, sum_by-cons other y ys)

module _ {K T : Type 0} (keys : Slab K) (cells : List (Option (Entry T))) (cells_fit : ℕ) (kept : IsKeyed keys cells cells_fit) where
  -- there are as many values as keys
  pub keyed_count : slab_len keys ≡ count_by is_some cells
  keyed_count = same_count keys.slots cells kept.same

  -- a key is there where a value is, and the other way round
  pub key_there : (slot : ℕ) → IsSome (get_or cells slot None) → IsSome (get keys slot)
  key_there slot there = kept.same slot ∙ there

  pub no_cell : (slot : ℕ) → get keys slot ≡ None → get_or cells slot None ≡ None
  no_cell slot vacant = nothing (get_or cells slot None) (sym (kept.same slot) ∙ ap is_some vacant) where
    nothing : (at : Option (Entry T)) → is_some at ≡ false → at ≡ None
    nothing None unset = refl
    nothing (Some e) unset = absurd (true≢false unset)

  pub keyed_within : IsWithin (shown_keyed keys cells)
  keyed_within key found =
      let below = below_length cells key.slot (found_there (shown_keyed keys cells) key found) in
      let within = kept.within in
      let few = kept.few in
      omega (arith, below, within, few)

  pub keyed_small : (slot : ℕ) → IsSome (get_or cells slot None) → slot < 536870912
  keyed_small slot there =
      let below = below_length cells slot there in
      let within = kept.within in
      let most = kept.most in
      omega (arith, below, within, most)

  -- the next slot has no value, also where it is none that a key may be
  pub keyed_next : get keys keys.vacant_key ≡ None → get_or cells (min keys.vacant_key 536870912) None ≡ None
  keyed_next vacant =
      elim (cases_lt keys.vacant_key 536870912) [
        | inl few ↦
            let is : min keys.vacant_key 536870912 ≡ keys.vacant_key = omega (arith, few) in
            ap (λ k. get_or cells k None) is ∙ no_cell keys.vacant_key vacant
        | inr many ↦
            let within = kept.within in
            let most = kept.most in
            get_or_past cells (min keys.vacant_key 536870912) None (omega (arith, many, within, most))
      ]

  -- a value at a key that is new
  pub keyed_placed : (new : Slab K) (slot : ℕ) (k : K) (e : Entry T) → Updates keys new slot (Some k) → slab_len new ≡ slab_len keys + 1 →
      slab_len keys + 1 ≤ keys.capacity → slot < new.capacity → new.capacity ≡ keys.capacity → IsKeyed new (placed cells slot e) cells_fit
  keyed_placed new slot k e updates more room below capacity =
      let most = kept.most in
      let fits = kept.fits in
      let within = kept.within in
      let after : Slots T = shown_keyed new (placed cells slot e) in
      let changes : Changes (shown_keyed keys cells) after slot (Some e) = Changes-placed (shown_keyed keys cells) after slot e refl in
      record {
        most = omega (arith, most, capacity);
        fits = omega (arith, fits, capacity);
        within = omega (arith, within, below, capacity, length-placed cells slot e);
        few = omega (arith, more, room, capacity);
        same = λ at. elim (cases_eq at slot) [
          | inl is ↦ rw is (ap is_some updates.changed ∙ sym (ap is_some changes.changed))
          | inr differs ↦ ap is_some (updates.others at differs) ∙ kept.same at ∙ sym (ap is_some (changes.others at differs))
        ];
      }

  -- a key and its value are gone
  pub keyed_taken : (new : Slab K) (slot : ℕ) → Updates keys new slot None → slab_len new + 1 ≡ slab_len keys → new.capacity ≡ keys.capacity →
      slot < length cells → IsKeyed new (set cells slot None) cells_fit
  keyed_taken new slot updates less capacity below =
      let most = kept.most in
      let fits = kept.fits in
      let within = kept.within in
      let few = kept.few in
      record {
        most = omega (arith, most, capacity);
        fits = omega (arith, fits, capacity);
        within = omega (arith, within, capacity, length-set cells slot None);
        few = omega (arith, few, less, capacity);
        same = λ at. elim (cases_eq at slot) [
          | inl is ↦ rw is (ap is_some updates.changed ∙ sym (ap is_some (get_or-set_same cells slot None None below)))
          | inr differs ↦ ap is_some (updates.others at differs) ∙ kept.same at ∙ sym (ap is_some (get_or-set_other cells slot at None None differs))
        ];
      }

  -- a value that is written over
  pub keyed_written : (slot : ℕ) (e : Entry T) → IsSome (get_or cells slot None) → IsKeyed keys (set cells slot (Some e)) cells_fit
  keyed_written slot e there =
      let below = below_length cells slot there in
      let within = kept.within in
      record {
        most = kept.most;
        fits = kept.fits;
        within = omega (arith, within, length-set cells slot (Some e));
        few = kept.few;
        same = λ at. elim (cases_eq at slot) [
          | inl is ↦ rw is (kept.same slot ∙ there ∙ sym (ap is_some (get_or-set_same cells slot (Some e) None below)))
          | inr differs ↦ kept.same at ∙ sym (ap is_some (get_or-set_other cells slot at (Some e) None differs))
        ];
      }

  -- more room
  pub keyed_wider : (new : Slab K) (more : ℕ) → new.slots ≡ keys.slots → keys.capacity ≤ new.capacity → new.capacity ≤ 536870912 → new.capacity ≤ more →
      IsKeyed new cells more
  keyed_wider new more slots wider most fits =
      let within = kept.within in
      let few = kept.few in
      record {
        most = most;
        fits = fits;
        within = omega (arith, within, wider);
        few = omega (arith, few, wider, ap (count_by is_some) slots);
        same = λ at. ap (λ (xs : List (Option K)). is_some (get_or xs at None)) slots ∙ kept.same at;
      }

  -- also with the keys as they are
  pub keyed_fits : (more : ℕ) → cells_fit ≤ more → IsKeyed keys cells more
  keyed_fits more wider =
      let fits = kept.fits in
      record {
        most = kept.most;
        fits = omega (arith, fits, wider);
        within = kept.within;
        few = kept.few;
        same = kept.same;
      }

-- a value that is gone changes its slot alone
pub Changes-taken : {T : Type 0} (old new : Slots T) (slot : ℕ) → slot < length old.entries → new.entries ≡ set old.entries slot None → Changes old new slot None
Changes-taken old new slot below written =
    record {
      changed = rw written (get_or-set_same old.entries slot None None below);
      others = λ other differs. rw written (get_or-set_other old.entries slot other None None differs);
    }
