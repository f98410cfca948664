-- The names that are left to be released when a session ends.
use Rattle.std.specs.Prelude.{ℕ, zero, suc, Bool, true, false, List, [], ◌∷◌, ◌++◌, codes, map, length, Option, Some, None}
use Rattle.std.specs.Option.{option_to_list}
use Rattle.rx_scenario.specs.Scenario.{Name}
use Rattle.rx_line.specs.Names.{name_of_number}
use Rattle.rx_line.specs.Pieces.{name_text, joined}
use Rattle.rx_live.specs.Session.{Session}

-- of the resources of these first numbers
abbrev pub names_below : Session → ℕ → List Name
names_below s zero = []
names_below s (suc k) = names_below s k ++ option_to_list (name_of_number s.resources k)

-- the one that was taken and is still to be told, and all that are bound
abbrev pub all_names : Session → List Name
all_names s = option_to_list s.unnamed ++ names_below s (length s.book.history)

abbrev pub has_no_names : List Name → Bool
has_no_names [] = true
has_no_names (name ∷ names) = false

-- what leads to a name
abbrev pub lead_to_name : (is_first : Bool) → List ℕ
lead_to_name true = codes ",\"release\":["
lead_to_name false = codes ","

-- a name and what leads to it, where there is one
abbrev pub led_name_text : (is_first : Bool) → Option Name → List ℕ
led_name_text first None = []
led_name_text first (Some name) = lead_to_name first ++ name_text name

-- an array that is not closed yet
abbrev pub open_text : List Name → List ℕ
open_text [] = []
open_text (name ∷ names) = codes ",\"release\":[" ++ joined (map name_text (name ∷ names))
