-- Where one slot changes, each other key finds what it found.
use Rattle.rx_slots.proofs.Common.{◌≡◌, ◌≢◌, ℕ, Some, None, IsSome, cases_eq, Key, Slots, entry_at, with_number, find, Changes, KeepsOthers}
use Rattle.rx_slots.proofs.Laws.EntryByNumber.{with_number-other, found_entry}
use Rattle.std.proofs.Common.{rules}

same_key : (a b : Key) → a.slot ≡ b.slot → a.number ≡ b.number → a ≡ b
same_key a b slot number = λ i. record { slot = slot i; number = number i }

module _ {T : Type 0} where
  -- where another key finds what it found before, if its slot kept it or found nothing for other numbers
  KeepsOthers-at : (old new : Slots T) (key : Key) →
      ((number : ℕ) → key.number ≢ number → with_number number (entry_at new key.slot) ≡ with_number number (entry_at old key.slot)) →
      ((slot : ℕ) → slot ≢ key.slot → entry_at new slot ≡ entry_at old slot) → KeepsOthers old new key
  KeepsOthers-at old new key here elsewhere other differs =
      search (rules, cases_eq, same_key, with_number)

  -- a value put at a free slot leaves what each other key finds
  pub KeepsOthers-insert : (old new : Slots T) (key : Key) (value : T) → entry_at old key.slot ≡ None →
      Changes old new key.slot (Some (record { number = key.number; value = value })) → KeepsOthers old new key
  KeepsOthers-insert old new key value free changes =
      search (rules, KeepsOthers-at, with_number-other)

  -- and so does a value taken out
  pub KeepsOthers-take : (old new : Slots T) (key : Key) → IsSome (find old key) → Changes old new key.slot None → KeepsOthers old new key
  KeepsOthers-take old new key found changes =
      search (rules, found_entry, KeepsOthers-at, with_number-other)
