-- What `is` and `dump` are answered.
use Rattle.std.specs.Prelude.{ℕ, ◌==◌, Bool, true, false, List, ◌++◌, codes, length, Option, Some, None, is_some, filter_map}
use Rattle.std.specs.Prelude.{option_map, option_and_then, if◌then◌else◌}
use Rattle.std.specs.Fmt.{decimal}
use Rattle.std.specs.List.{range_with_len}
use Rattle.std.specs.Str.{trim}
use Rattle.rx_event.specs.declared.event.Event.{Event}
use Rattle.rx_event.specs.declared.event.Event.TheVariants.{Open, Connect, Hub, Accept, Lease}
use Rattle.rx_event.specs.Kept.{event_since}
use Rattle.rx_dump.specs.Dump.{dump}
use Rattle.rx_scenario.specs.Scenario.{Name}
use Rattle.rx_line.specs.Names.{name_of_number}
use Rattle.rx_line.specs.Pieces.{name_text, joined, ok_text}
use Rattle.rx_live.specs.Session.{Session, node_by_name}

-- the member that says whether a node is open, and the end of the answer
abbrev pub open_member : Bool → List ℕ
open_member true = codes ",\"open\":true}"
open_member false = codes ",\"open\":false}"

-- whether a node of this name is open
abbrev pub query_text : Session → (node : Name) → List ℕ
query_text s node = ok_text (length s.book.history) ++ open_member (is_some (node_by_name s node))

-- names ------------------------------------------------------------------------------------------------

abbrev pub name_if_open : Session → Name → Option Name
name_if_open s name = if is_some (node_by_name s name) then Some name else None

-- the name of an open node
unfoldable pub name_of_open : Session → ℕ → Option Name
name_of_open s n = option_and_then (name_if_open s) (name_of_number s.nodes n)

-- what is called so that this event made: a node while it is open, a resource and a lease until they are gone, and a hub
abbrev pub name_made : Session → ℕ → Event → Option Name
name_made s n (Open place kind) = name_of_open s n
name_made s n (Connect hub) = name_of_open s n
name_made s n (Hub mode) = name_of_number s.hubs n
name_made s n (Accept node tag) = name_of_number s.resources n
name_made s n (Lease resource) = name_of_number s.leases n
name_made s n _ = None

unfoldable pub name_at : Session → ℕ → Option Name
name_at s n = option_and_then (name_made s n) (event_since s.book.base s.book.history n)

-- a number and its name, as a member of an object
unfoldable pub name_entry_text : (number : ℕ) → Name → List ℕ
name_entry_text number name = name_text (decimal number) ++ codes ":" ++ name_text name

abbrev pub name_entry_at : Session → ℕ → Option (List ℕ)
name_entry_at s n = option_map (name_entry_text n) (name_at s n)

-- of all events so far, by rising number
abbrev pub entries : Session → (len : ℕ) → List (List ℕ)
entries s len = filter_map (name_entry_at s) (range_with_len 0 len)

-- the dump ---------------------------------------------------------------------------------------------

-- the dump of the history, without the newline at its end, and the names of its numbers
abbrev pub named_dump_text : Session → List ℕ
named_dump_text s =
    ok_text (length s.book.history) ++ codes ",\"dump\":" ++ trim (dump s.book.history) ++ codes ",\"names\":{"
    ++ joined (entries s (length s.book.history)) ++ codes "}}"

-- there are events since this place alone
abbrev pub since_text : Session → ℕ → List ℕ
since_text s place = ok_text (length s.book.history) ++ codes ",\"since\":" ++ decimal place ++ codes "}"

-- the whole history where no checkpoint took events away, else the place of the last one
abbrev pub dump_text : Session → List ℕ
dump_text s = if s.book.base.at_length == 0 then named_dump_text s else since_text s s.book.base.at_length
