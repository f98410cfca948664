-- What `Slots` shows of its keys and cells, and keeps true of them. No public clause cites this module.
use Rattle.std.specs.Prelude.{◌≡◌, ℕ, ◌-◌, ◌≤◌, ◌^◌, min, List, length, Option, None, is_some, slice_index_or}
use Rattle.slab.specs.Slab.{Slab, get, slab_len}
use Rattle.rx_slots.specs.declared.Entry.{Entry}
use Rattle.rx_slots.specs.Slots.{Slots}

module _ {K T : Type 0} where
  -- what a contract sees of these keys and cells. No slot is past 2^29, where keys without room may tell any
  abbrev pub shown_keyed : Slab K → List (Option (Entry T)) → Slots T
  shown_keyed keys cells =
      record {
        entries = cells;
        next_slot = min keys.vacant_key (2 ^ 29);
        count = slab_len keys;
        room = keys.capacity - slab_len keys;
      }

  -- a cell has a value just where its slot is the key of one; as many cells fit as keys, and these are below 2^29
  pub record IsKeyed (keys : Slab K) (cells : List (Option (Entry T))) (cells_fit : ℕ) : Type 0 where
    pub most : keys.capacity ≤ 2 ^ 29
    pub fits : keys.capacity ≤ cells_fit
    pub within : length cells ≤ keys.capacity
    pub few : slab_len keys ≤ keys.capacity
    pub same : (slot : ℕ) → is_some (get keys slot) ≡ is_some (slice_index_or cells slot None)
