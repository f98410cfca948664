-- What is kept of slots that are seen through a function, and lists by rising number.
use Rattle.rx_tree.proofs.Common.{◌≡◌, option_map, range_with_len, filter_map, length-map, Entry, Slots, entry_at, kept_by, project}
use Rattle.rx_slots.specs.Slots.{slot_count}
use Rattle.std.proofs.Common.{rules}

module _ {X Y Z : Type 0} (f : X → Y) (keep : Entry Y → Z) where
  -- at all slots
  pub list_kept : (s : Slots X) →
      filter_map (λ slot. option_map keep (entry_at (project f s) slot)) (range_with_len 0 (slot_count s)) ≡ kept_by keep (project f s)
  list_kept s = search (rules, filter_map, length-map)
