-- What of all lanes is read for a report, and to find a lane by its place.
use Rattle.std.specs.Prelude.{ℕ, ◌-◌, ◌^◌, length, min, Option, Some, None, sum_by}
use Rattle.rx_lanes.specs.declared.names.LaneName.{LaneName}
use Rattle.rx_lanes.specs.Lane.{line}
use Rattle.rx_lanes.specs.State.{State, Opened}

-- a count that stays at the largest number
abbrev pub at_most_all : ℕ → ℕ
at_most_all many = min many (2 ^ 64 - 1)

module _ {E : Type 0} where
  -- the name of the lane that stands at a place, none where none does
  abbrev pub name_of : (place : ℕ) → Option (Opened E) → Option LaneName
  name_of place None = None
  name_of place (Some o) = Some (record { place = place; turn = o.turn })

  -- how many effects are in a lane
  abbrev pub length_of : Option (Opened E) → ℕ
  length_of None = 0
  length_of (Some o) = length (line o.lane)

  -- how many are in all
  abbrev pub waiting : State E → ℕ
  waiting s = sum_by length_of s.places
