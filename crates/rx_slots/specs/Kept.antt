-- What `Records` shows of its cells, and keeps true of them. No public clause cites this module.
use Rattle.std.specs.Prelude.{◌≡◌, ◌≢◌, ℕ, ◌+◌, ◌-◌, ◌<◌, ◌≤◌, ◌^◌, ◌==◌, ◌&&◌, nat_le, nat_lt, Bool, cond, List, [], ◌∷◌, length}
use Rattle.std.specs.Prelude.{Option, Some, None, is_some, count_by, slice_index_or, refl}
use Rattle.std.specs.Coded.{Coded, code_by, coded×, coded_ℕ, coded_list, coded_option}
use Rattle.rx_slots.specs.declared.Entry.{Entry}
use Rattle.rx_slots.specs.Slots.{Slots, entry_code}

-- the last of these slots, or this one where there is none
abbrev pub last_or : ℕ → List ℕ → ℕ
last_or further [] = further
last_or further (slot ∷ slots) = last_or slot slots

-- what stands at each slot, the free slots, and how many of both fit
pub record Cells (T : Type 0) : Type 0 where
  pub items : List (Option (Entry T))
  pub free : List ℕ
  pub fit : ℕ
  pub free_fit : ℕ

-- as pairs
abbrev pub cells_code : {T : Type 0} → Coded T → Coded (Cells T)
cells_code {T} code =
    code_by
    (List (Option (Entry T)) × (List ℕ × (ℕ × ℕ)))
    (coded× (coded_list (coded_option (entry_code code))) (coded× (coded_list coded_ℕ) (coded× coded_ℕ coded_ℕ)))
    (λ c. (c.items, (c.free, (c.fit, c.free_fit))))
    (λ p. record { items = p.0; free = p.1.0; fit = p.1.1.0; free_fit = p.1.1.1 })
    (λ _. refl)

-- the number that tells the first place among the free slots; those from there on tell the further ones
abbrev pub first_place : ℕ
first_place = 9223372036854775808

-- a slot is free where what stands in the place of its number tells its place among the free slots
abbrev pub is_free : List ℕ → ℕ → ℕ → Bool
is_free free number slot = nat_le first_place number &&
    (nat_lt (number - first_place) (length free) && (slice_index_or free (number - first_place) 0 == slot))

-- each free slot has that there
pub record AreTold (free numbers : List ℕ) : Type 0 where
  pub told : (i : ℕ) → i < length free →
      (slice_index_or free i 0 < length numbers) × (slice_index_or numbers (slice_index_or free i 0) 0 ≡ i + first_place)

-- so many values fit, and so do all cells and the slots of those that are free
pub record Fits {C : Type 0} (cells : List C) (free : List ℕ) (capacity cells_fit free_fit : ℕ) : Type 0 where
  pub most : capacity ≤ 2 ^ 29
  pub cells_in : capacity ≤ cells_fit
  pub free_in : capacity ≤ free_fit
  pub within : length cells ≤ capacity
  pub few : length free ≤ length cells

module _ {T : Type 0} where
  -- what a contract sees of these cells, these free slots, and how many values fit
  abbrev pub shown : List (Option (Entry T)) → List ℕ → ℕ → Slots T
  shown cells free capacity =
      record {
        entries = cells;
        next_slot = last_or (length cells) free;
        count = length cells - length free;
        room = capacity - (length cells - length free);
      }

  -- the values fit, and so do the free slots, which are all those without a value, each once; and slots are below 2^29
  pub record IsKept (cells : List (Option (Entry T))) (free : List ℕ) (capacity cells_fit free_fit : ℕ) : Type 0 where
    pub most : capacity ≤ 2 ^ 29
    pub cells_in : capacity ≤ cells_fit
    pub free_in : capacity ≤ free_fit
    pub within : length cells ≤ capacity
    pub counted : length free + count_by is_some cells ≡ length cells
    pub vacant : (i : ℕ) → i < length free →
        (slice_index_or free i 0 < length cells) × (slice_index_or cells (slice_index_or free i 0) None ≡ None)
    pub once : (i j : ℕ) → i < j → j < length free → slice_index_or free i 0 ≢ slice_index_or free j 0

  -- what stands at a slot: nothing where it is free
  abbrev pub standing : List ℕ → ℕ → ℕ → T → Option (Entry T)
  standing free slot number value = cond (is_free free number slot) None (Some (record { number = number; value = value }))

  -- what stands at each slot from one on
  abbrev pub standing_from : List ℕ → ℕ → List ℕ → List T → List (Option (Entry T))
  standing_from free slot [] values = []
  standing_from free slot (number ∷ numbers) [] = []
  standing_from free slot (number ∷ numbers) (value ∷ values) = standing free slot number value ∷ standing_from free (slot + 1) numbers values
