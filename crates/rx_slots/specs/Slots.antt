-- What a contract sees of `Slots`: a finite map from slots to values with their numbers.
-- A key is a slot and a number. It finds the value of its slot where that has its number.
use Rattle.std.specs.Prelude.{◌≡◌, ◌≢◌, ℕ, ◌+◌, ◌-◌, ◌<◌, ◌==◌, cond, List, ◌++◌, length, replicate, Option}
use Rattle.std.specs.Prelude.{Some, None, IsSome, option_map, slice_index_or, slice_set, refl}
use Rattle.std.specs.Coded.{Coded, code_by, coded×, coded_ℕ, coded_list, coded_option}
use Rattle.rx_slots.specs.declared.Entry.{Entry}
use Rattle.rx_slots.specs.declared.Key.{Key}

-- what stands at each slot that was ever used, from 0 on; the slot that the next insert uses; how
-- many slots have a value; how many values more need no memory
pub record Slots (T : Type 0) : Type 0 where
  pub entries : List (Option (Entry T))
  pub next_slot : ℕ
  pub count : ℕ
  pub room : ℕ

-- an entry is stored as the pair of its fields
abbrev pub entry_code : {T : Type 0} → Coded T → Coded (Entry T)
entry_code {T} code =
    code_by
    (ℕ × T)
    (coded× coded_ℕ code)
    (λ e. (e.number, e.value))
    (λ p. record { number = p.0; value = p.1 })
    (λ _. refl)

-- and slots as the tuple of theirs
abbrev pub slots_code : {T : Type 0} → Coded T → Coded (Slots T)
slots_code {T} code =
    code_by
    (List (Option (Entry T)) × (ℕ × (ℕ × ℕ)))
    (coded× (coded_list (coded_option (entry_code code))) (coded× coded_ℕ (coded× coded_ℕ coded_ℕ)))
    (λ s. (s.entries, (s.next_slot, (s.count, s.room))))
    (λ p. record { entries = p.0; next_slot = p.1.0; count = p.1.1.0; room = p.1.1.1 })
    (λ _. refl)

module _ {T : Type 0} where
  -- a value with its number
  abbrev pub entry_of : ℕ → T → Entry T
  entry_of number value = record { number = number; value = value }

  -- how many slots were ever used: each value is at a slot below
  abbrev pub slot_count : Slots T → ℕ
  slot_count s = length s.entries

  -- what stands at a slot, nothing past the last one
  abbrev pub entry_at : Slots T → ℕ → Option (Entry T)
  entry_at s slot = slice_index_or s.entries slot None

  -- the number at a slot
  abbrev pub number_at : Slots T → ℕ → Option ℕ
  number_at s slot = option_map (λ e. e.number) (entry_at s slot)

  -- the value at a slot
  abbrev pub value_at : Slots T → ℕ → Option T
  value_at s slot = option_map (λ e. e.value) (entry_at s slot)

  -- the key that finds the value at a slot
  abbrev pub key_at : Slots T → ℕ → Option Key
  key_at s slot = option_map (λ e. record { slot = slot; number = e.number }) (entry_at s slot)

  -- the value of an entry, where its number is asked for
  abbrev pub with_number : ℕ → Option (Entry T) → Option T
  with_number number None = None
  with_number number (Some e) = cond (e.number == number) (Some e.value) None

  -- what a key finds
  abbrev pub find : Slots T → Key → Option T
  find s key = with_number key.number (entry_at s key.slot)

  -- each key that finds a value has a slot below as many as the values and the room are
  abbrev pub IsWithin : Slots T → Type 0
  IsWithin s = (key : Key) → IsSome (find s key) → key.slot < s.count + s.room

  -- these entries with one more at a slot, and nothing at the slots between
  abbrev pub placed : List (Option (Entry T)) → ℕ → Entry T → List (Option (Entry T))
  placed entries slot e =
      slice_set (entries ++ replicate (slot + 1 - length entries) None) slot (Some e)

  -- this slot has this, and every other slot keeps what it had
  pub record Changes (old new : Slots T) (slot : ℕ) (entry : Option (Entry T)) : Type 0 where
    pub changed : entry_at new slot ≡ entry
    pub others : (other : ℕ) → other ≢ slot → entry_at new other ≡ entry_at old other

  -- every other key finds what it found
  abbrev pub KeepsOthers : Slots T → Slots T → Key → Type 0
  KeepsOthers old new key = (other : Key) → other ≢ key → find new other ≡ find old other

  -- the slots after this value was written at a key that finds one
  abbrev pub with_value : Slots T → Key → T → Slots T
  with_value s key value =
      record s { entries = slice_set s.entries key.slot (Some (entry_of key.number value)) }

  -- the slots after this value was written at a slot that has one
  abbrev pub with_value_at : Slots T → ℕ → T → Slots T
  with_value_at s slot value =
      let written = option_map (λ number. entry_of number value) (number_at s slot) in
      record s { entries = slice_set s.entries slot written }
