-- What a number finds in an entry, and a key in its slot.
use Rattle.rx_slots.proofs.Common.{◌≡◌, ◌≢◌, ℕ, Option, Some, None, is_some, IsSome, option_map, set, refl, sym, ap, inl, inr, rules, true≢false}
use Rattle.rx_slots.proofs.Common.{Entry, cases_eq, Key, Slots, entry_of, entry_at, value_at, with_number, find, with_value, with_value_at}

module _ {T : Type 0} where
  -- the number of an entry finds its value
  pub with_number-same : (number : ℕ) (e : Entry T) → e.number ≡ number → with_number number (Some e) ≡ Some e.value
  with_number-same number e same = search rules

  -- another number finds nothing
  pub with_number-other : (number : ℕ) (e : Entry T) → e.number ≢ number → with_number number (Some e) ≡ None
  with_number-other number e differs = search rules

  -- where a number finds a value, the entry has that number
  pub numbered_entry : (number : ℕ) (at : Option (Entry T)) → IsSome (with_number number at) → (e : Entry T) × (at ≡ Some e) × (e.number ≡ number)
  numbered_entry number None some = absurd (true≢false (sym some))
  numbered_entry number (Some e) some =
      elim (cases_eq e.number number) [
        | inl same ↦ (e, refl, same)
        | inr differs ↦ absurd (true≢false (sym (rw (with_number-other number e differs) at some)))
      ]

  -- a key that finds a value has the number of its slot
  pub found_entry : (s : Slots T) (key : Key) → IsSome (find s key) → (e : Entry T) × (entry_at s key.slot ≡ Some e) × (e.number ≡ key.number)
  found_entry s key found = numbered_entry key.number (entry_at s key.slot) found

  -- so its slot has a value
  pub found_there : (s : Slots T) (key : Key) → IsSome (find s key) → IsSome (entry_at s key.slot)
  found_there s key found = ap is_some (found_entry s key found).1

  -- which is the one that it finds
  pub find-value_at : (s : Slots T) (key : Key) → IsSome (find s key) → find s key ≡ value_at s key.slot
  find-value_at s key found =
      search (rules, found_entry, with_number, with_number-same, option_map)

  -- and a write at the slot is one at the key
  pub with_value_at-found : (s : Slots T) (key : Key) (value : T) → IsSome (find s key) → with_value_at s key.slot value ≡ with_value s key value
  with_value_at-found s key value found =
      search (rules, found_entry, option_map, set, entry_of)
