-- What `Segments` shows of its pieces, and keeps true of them. No public clause cites this module.
use Rattle.std.specs.Prelude.{◌≡◌, ℕ, ◌+◌, ◌-◌, ◌*◌, ◌<◌, ◌≤◌, List, [], ◌++◌, All, Vec, vec_items, vec_len, vec_capacity, flat_map}
use Rattle.rx_segments.specs.Segments.{Segments}

-- a piece that is full, and one that is empty with room for as much
abbrev pub IsFullPiece : {X Z : Type 0} → Vec X Z → Type 0
IsFullPiece v = vec_len v ≡ 4096

abbrev pub IsEmptyPiece : {X Z : Type 0} → Vec X Z → Type 0
IsEmptyPiece v = (v.items ≡ []) × (vec_capacity v ≡ 4096)

module _ {T Z : Type 0} where
  -- what the pieces hold, one after the other
  abbrev pub items_in : Vec (Vec T Z) Z → Vec T Z → List T
  items_in full last = flat_map vec_items full.items ++ last.items

  -- for how many more there is room
  abbrev pub room_in : Vec T Z → Vec (Vec T Z) Z → ℕ
  room_in last spare = (vec_capacity last - vec_len last) + 4096 * vec_len spare

  -- what callers see
  abbrev pub shown : Vec (Vec T Z) Z → Vec T Z → Vec (Vec T Z) Z → Segments T
  shown full last spare = record { items = items_in full last; room = room_in last spare }

  -- only the first piece may be smaller than a piece, and only while no other is there; each empty one has its place
  -- among the full ones; and how many items all pieces take is a number
  pub record AreKept (full : Vec (Vec T Z) Z) (last : Vec T Z) (spare : Vec (Vec T Z) Z) : Type 0 where
    pub full_ones : All IsFullPiece full.items
    pub empty_ones : All IsEmptyPiece spare.items
    pub most : vec_capacity last ≤ 4096
    pub whole : 0 < vec_len spare → vec_capacity last ≡ 4096
    pub places : vec_len full + vec_len spare ≤ vec_capacity full
    pub counted : 4096 * (vec_len full + vec_len spare) ≤ 1099511627776
