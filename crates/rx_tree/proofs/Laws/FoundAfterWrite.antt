-- What slots find after a write of one record.
use Rattle.std.proofs.Common.{◌≡◌, ◌≢◌, ℕ, ◌<◌, length, get_or, set, Option, Some, None, refl, sym, ap, ◌∙◌, inl, inr, rules, true≢false}
use Rattle.std.proofs.lemmas.Bool.{cases_eq, cases_lt}
use Rattle.std.proofs.lemmas.List.{get_or_past, get_or-set_same, get_or-set_other}
use Rattle.rx_slots.specs.declared.Entry.{Entry}
use Rattle.rx_slots.specs.declared.Key.{Key}
use Rattle.rx_slots.specs.Slots.{Slots, entry_of, entry_at, with_number, find, KeepsOthers}
use Rattle.rx_tree.proofs.Laws.Keys.{same_key}

module _ {X : Type 0} where
  pub same_entry : (a b : Entry X) → a.number ≡ b.number → a.value ≡ b.value → a ≡ b
  same_entry a b number value = λ i. record { number = number i; value = value i }

  -- the number of an entry finds its value, and no other does
  pub with_number-same : (n : ℕ) (e : Entry X) → e.number ≡ n → with_number n (Some e) ≡ Some e.value
  with_number-same n e same = search rules

  pub with_number-other : (n : ℕ) (e : Entry X) → e.number ≢ n → with_number n (Some e) ≡ None
  with_number-other n e other = search rules

  numbered : (n : ℕ) (o : Option (Entry X)) (x : X) → with_number n o ≡ Some x → o ≡ Some (entry_of n x)
  numbered n x1 x found = search (rules, true≢false, cases_eq, with_number-same, same_entry, with_number-other)

  -- what stands at the slot of a key that finds a value
  pub entry_found : (s : Slots X) (key : Key) (x : X) → find s key ≡ Some x → entry_at s key.slot ≡ Some (entry_of key.number x)
  entry_found s key x found = numbered key.number (entry_at s key.slot) x found

  pub found_entry : (s : Slots X) (key : Key) (x : X) → entry_at s key.slot ≡ Some (entry_of key.number x) → find s key ≡ Some x
  found_entry s key x at = ap (with_number key.number) at ∙ with_number-same key.number (entry_of key.number x) refl

  pub slot_within : (s : Slots X) (slot : ℕ) (e : Entry X) → entry_at s slot ≡ Some e → slot < length s.entries
  slot_within s slot e at = search (rules, cases_lt, true≢false, get_or_past)

  -- two keys of one slot that find values are one
  pub one_key : (s : Slots X) (a b : Key) (x y : X) → a.slot ≡ b.slot → find s a ≡ Some x → find s b ≡ Some y → (a ≡ b) × (x ≡ y)
  one_key s a b x y slot found_a found_b = search (rules, entry_found, same_key)

  -- where a slot's entry is written, its key finds what was written, and every other what it found
  module _ (s t : Slots X) (key : Key) (before after : X) (found : find s key ≡ Some before)
      (written : t.entries ≡ set s.entries key.slot (Some (entry_of key.number after))) where
    within : key.slot < length s.entries
    within = slot_within s key.slot (entry_of key.number before) (entry_found s key before found)

    pub find-written : find t key ≡ Some after
    find-written =
        found_entry t key after (ap (λ es. get_or es key.slot None) written ∙ get_or-set_same s.entries key.slot (Some (entry_of key.number after)) None within)

    elsewhere : (slot : ℕ) → slot ≢ key.slot → entry_at t slot ≡ entry_at s slot
    elsewhere slot other = ap (λ es. get_or es slot None) written ∙ get_or-set_other s.entries key.slot slot (Some (entry_of key.number after)) None other

    pub KeepsOthers-written : KeepsOthers s t key
    KeepsOthers-written k differs = elim (cases_eq k.slot key.slot) [
      | inl same ↦
          let other : key.number ≢ k.number = λ n. differs (same_key k key same (sym n)) in
          let now = ap (entry_at t) same ∙ entry_found t key after find-written in
          let was = ap (entry_at s) same ∙ entry_found s key before found in
          (ap (with_number k.number) now ∙ with_number-other k.number (entry_of key.number after) other) ∙
          sym (ap (with_number k.number) was ∙ with_number-other k.number (entry_of key.number before) other)
      | inr apart ↦ ap (with_number k.number) (elsewhere k.slot apart)
    ]
