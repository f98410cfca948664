-- How entries are kept that were scheduled in the order in which they come out: a ticket, a due time, and a place for what was
-- scheduled, which is empty once that was taken out.
use Rattle.std.specs.Prelude.{◌≡◌, ℕ, ◌<◌, ◌≤◌, Bool, false, List, [], ◌∷◌, Option, Some, option_map, filter_map, is_none}
use Rattle.std.specs.List.{AllPairs}
use Rattle.rx_time.specs.declared.work.Work.{Work}
use Rattle.rx_time.specs.declared.run.Slot.{Slot}

module _ {T : Type 0} where
  -- the slot of a ticket and its work
  abbrev pub slot_of_work : ℕ → Work T → Slot T
  slot_of_work ticket work = record { ticket = ticket; due = work.due; item = Some work.item }

  -- the work in a slot, and its entry, if it has one
  abbrev pub work_of : Slot T → Option (Work T)
  work_of slot = option_map (λ item. record { due = slot.due; item = item }) slot.item

  abbrev pub slot_entry : Slot T → Option (ℕ × Work T)
  slot_entry slot = option_map (λ item. (slot.ticket, record { due = slot.due; item = item })) slot.item

  abbrev pub slot_entries : List (Slot T) → List (ℕ × Work T)
  slot_entries slots = filter_map slot_entry slots

  -- the tickets rise, and the due times do not fall
  abbrev pub IsBefore : Slot T → Slot T → Type 0
  IsBefore s t = (s.ticket < t.ticket) × (s.due ≤ t.due)

  -- whether the first slot is empty
  abbrev pub is_front_empty : List (Slot T) → Bool
  is_front_empty [] = false
  is_front_empty (slot ∷ slots) = is_none slot.item

  -- what a run keeps true of its slots
  pub record AreRunSlots (slots : List (Slot T)) : Type 0 where
    pub in_order : AllPairs IsBefore slots
    pub filled : is_front_empty slots ≡ false
