-- Laws of dumps: the text is that of a JSON value, and the value is read as the history.
use Rattle.std.specs.Prelude.{◌≡◌, ◌^◌, pos, ◌∷◌, ◌++◌, codes}
use Rattle.rx_dump.specs.Imports.{ℕ, Bool, true, List, [], map, nat_lt, Some, list_all, Data, string, number, array, unsigned, of_integer, items_of}
use Rattle.rx_dump.specs.Imports.{Terminal, Completed, Error, Place, Root, Source, Inner, Notifier, Kind, Leaf, Pass, Flat, Switch, Until, Sub, Mode}
use Rattle.rx_dump.specs.Imports.{Auto, Manual, Event}
use Rattle.serde_json.specs.Written.{compact_text}
use Rattle.rx_event.specs.declared.event.Event.TheVariants.{Open, Hub, Connect, Accept, Use, Remove, Lease, Return, Item, Decline, End, Close, Take}
use Rattle.rx_dump.specs.History.{history_of}
use Rattle.rx_dump.specs.Dump.{dump}

-- a history as a JSON value ------------------------------------------------------------------------

abbrev pub numeral : ℕ → Data
numeral n = number (unsigned n)

abbrev pub place_parts : Place → List Data
place_parts Root = string (codes "root") ∷ []
place_parts (Source n) = string (codes "source") ∷ numeral n ∷ []
place_parts (Inner n) = string (codes "inner") ∷ numeral n ∷ []
place_parts (Notifier n) = string (codes "notifier") ∷ numeral n ∷ []

abbrev pub kind_parts : Kind → List Data
kind_parts Leaf = string (codes "leaf") ∷ []
kind_parts Pass = string (codes "pass") ∷ []
kind_parts Flat = string (codes "flat") ∷ []
kind_parts Switch = string (codes "switch") ∷ []
kind_parts Until = string (codes "until") ∷ []
kind_parts (Sub hub) = string (codes "sub") ∷ numeral hub ∷ []

abbrev pub mode_part : Mode → Data
mode_part Auto = string (codes "auto")
mode_part Manual = string (codes "manual")

abbrev pub terminal_parts : Terminal → List Data
terminal_parts Completed = string (codes "completed") ∷ []
terminal_parts (Error code) = string (codes "error") ∷ numeral code ∷ []

abbrev pub parts_of : Event → List Data
parts_of (Open place kind) = string (codes "open") ∷ (place_parts place ++ kind_parts kind)
parts_of (Hub mode) = string (codes "hub") ∷ mode_part mode ∷ []
parts_of (Connect hub) = string (codes "connect") ∷ numeral hub ∷ []
parts_of (Accept node tag) = string (codes "accept") ∷ numeral node ∷ numeral tag ∷ []
parts_of (Use res) = string (codes "use") ∷ numeral res ∷ []
parts_of (Remove res) = string (codes "remove") ∷ numeral res ∷ []
parts_of (Lease res) = string (codes "lease") ∷ numeral res ∷ []
parts_of (Return lease) = string (codes "return") ∷ numeral lease ∷ []
parts_of (Item leaf value) = string (codes "item") ∷ numeral leaf ∷ number (of_integer value) ∷ []
parts_of (Decline node) = string (codes "decline") ∷ numeral node ∷ []
parts_of (End node terminal) = string (codes "end") ∷ numeral node ∷ terminal_parts terminal
parts_of (Close node) = string (codes "close") ∷ numeral node ∷ []
parts_of (Take res) = string (codes "take") ∷ numeral res ∷ []

abbrev pub event_data : Event → Data
event_data e = array (items_of (parts_of e))

abbrev pub history_data : List Event → Data
history_data h = array (items_of (map event_data h))

-- laws ---------------------------------------------------------------------------------------------

-- an item fits 64 bits with its sign, and an error's code 32, as those of each event of the program do
abbrev pub is_in_range : Event → Bool
is_in_range (Item leaf (pos n)) = nat_lt n (2 ^ 63)
is_in_range (End node (Error code)) = nat_lt code (2 ^ 32)
is_in_range _ = true

-- the text is the value's compact text and a newline
abbrev pub IsCompact : Type 0
IsCompact = (h : List Event) → dump h ≡ compact_text (history_data h) ++ codes "\n"

-- the value is read as the history
abbrev pub IsReadBack : Type 0
IsReadBack = (h : List Event) → list_all is_in_range h ≡ true → history_of (history_data h) ≡ Some h
