-- Names that are listed.
use Rattle.std.specs.Prelude.{◌≡◌, ℕ, ◌≤◌, Bool, false, Option, Some, None, option_and_then, if◌then◌else◌}
use Rattle.std.specs.Option.{option_map_or}
use Rattle.rx_scenario.specs.Scenario.{Name}
use Rattle.rx_slots.specs.declared.Key.{Key}
use Rattle.rx_book.specs.State.{State, has_key}
use Rattle.rx_line.specs.declared.names.Spot.{Spot}
use Rattle.rx_line.specs.declared.names.Names.{Names}
use Rattle.rx_line.specs.Names.{spot_of, name_of_number}

abbrev pub spot_key : Spot → Key
spot_key s = record { slot = s.slot; number = s.number }

-- the name stands for an open node
unfoldable pub is_open_name : State → Names → Name → Bool
is_open_name book nodes name = option_map_or (λ spot. has_key book.keys (spot_key spot)) (spot_of nodes name) false

abbrev pub if_open : State → Names → Name → Option Name
if_open book nodes name = if is_open_name book nodes name then Some name else None

-- the name of an open node
unfoldable pub open_name : State → Names → ℕ → Option Name
open_name book nodes n = option_and_then (if_open book nodes) (name_of_number nodes n)

-- names that stand for numbers below this one alone
abbrev pub AreNamesBelow : ℕ → Names → Type 0
AreNamesBelow len names = (n : ℕ) → len ≤ n → name_of_number names n ≡ None
