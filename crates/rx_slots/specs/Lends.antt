-- What the slots end as, where a `&mut` to one of their values is returned.
use Rattle.std.specs.Prelude.{ℕ, Option, None, option_map, slice_index_or, slice_set}
use Rattle.std.specs.Borrow.{Lends, LendsIf, Fml, RattleType, MutBor}
use Rattle.rx_slots.specs.declared.Key.{Key}
use Rattle.rx_slots.specs.Slots.{Slots, entry_of, with_value, with_value_at}
use Rattle.rx_slots.specs.Kept.{Cells}
use Rattle.rx_slots.specs.contracts.Slots.{the_row}
use Rattle.rx_slots.specs.contracts.cells.Cells.{the_row as cells_row}
use Rattle.rx_slots.specs.contracts.records.Records.{the_row as records_row}

module _ (T : RattleType) (s : MutBor (Slots T.Denot)) where
  -- once the borrow ends, the key has the last value written, and at `None` nothing changed
  abbrev pub lends_value : Key → Option (MutBor T.Denot) → Fml
  lends_value key r = LendsIf (the_row T) T s r (with_value s.now key) s.now

  -- and so has the slot
  abbrev pub lends_value_at : ℕ → Option (MutBor T.Denot) → Fml
  lends_value_at slot r = LendsIf (the_row T) T s r (with_value_at s.now slot) s.now

  -- a slot that has a value has it always
  abbrev pub lends_at : ℕ → MutBor T.Denot → Fml
  lends_at slot r = Lends (the_row T) T s r (with_value_at s.now slot)

  -- also where values stay until their slot is used again
  abbrev pub lends_record : ℕ → MutBor T.Denot → Fml
  lends_record slot r = Lends (records_row T) T s r (with_value_at s.now slot)

-- and the cells behind such a store, whose slot keeps its number
abbrev pub lends_cell : (T : RattleType) → MutBor (Cells T.Denot) → ℕ → MutBor T.Denot → Fml
lends_cell T c slot r = Lends (cells_row T) T c r (λ value. record c.now {
  items = slice_set c.now.items slot (option_map (λ e. entry_of e.number value) (slice_index_or c.now.items slot None));
})
