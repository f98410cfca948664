-- The history that a JSON value is: a dump is an array of events, and an event an array: what it is, then its parts.
use Rattle.std.specs.Prelude.{◌+◌, ◌^◌, ◌==◌, ◌∷◌, codes, if◌then◌else◌}
use Rattle.std.specs.Str.{bytes_eq}
use Rattle.rx_dump.specs.Imports.{ℕ, suc, ℤ, List, [], Bool, false, nat_lt, Option, Some, None, option_map, option_and_then, option_map_or, Data, Items}
use Rattle.rx_dump.specs.Imports.{no_items, item, at, as_str, as_number, as_u64, as_i64, as_array, Terminal, Completed, Error, Place, Root, Source}
use Rattle.rx_dump.specs.Imports.{Inner, Notifier, Kind, Leaf, Pass, Flat, Switch, Until, Sub, Mode, Auto, Manual, Event}
use Rattle.rx_event.specs.declared.event.Event.TheVariants.{Open, Hub, Connect, Accept, Use, Remove, Lease, Return, Item, Decline, End, Close, Take}

-- the parts of an event ---------------------------------------------------------------------------

abbrev pub count : Items → ℕ
count no_items = 0
count (item d ds) = suc (count ds)

-- an array of so many
unfoldable pub has_count : ℕ → Data → Bool
has_count n d = option_map_or (λ ds. count ds == n) (as_array d) false

unfoldable pub word_at : ℕ → Data → Option (List ℕ)
word_at i d = option_and_then as_str (at i d)

-- the number of a node, a hub, a resource or a lease, or a tag: they fit 64 bits
unfoldable pub number_element : ℕ → Data → Option ℕ
number_element i d = option_and_then as_u64 (option_and_then as_number (at i d))

-- an item fits 64 bits with its sign
unfoldable pub value_element : ℕ → Data → Option ℤ
value_element i d = option_and_then as_i64 (option_and_then as_number (at i d))

-- the one number of an event that has no other part
unfoldable pub only_number : Data → Option ℕ
only_number d = if has_count 2 d then number_element 1 d else None

-- openings ----------------------------------------------------------------------------------------

unfoldable pub plain_kind : List ℕ → Option Kind
plain_kind word =
    if bytes_eq word (codes "leaf") then Some Leaf
    else if bytes_eq word (codes "pass") then Some Pass
    else if bytes_eq word (codes "flat") then Some Flat
    else if bytes_eq word (codes "switch") then Some Switch
    else if bytes_eq word (codes "until") then Some Until
    else None

-- the last parts, from i on: a word, or for a subscriber two parts, "sub" and its hub
unfoldable pub kind_from : ℕ → Data → Option Kind
kind_from i d =
    if has_count (i + 1) d then option_and_then plain_kind (word_at i d)
    else if has_count (i + 2) d
    then option_and_then (λ word.
    if bytes_eq word (codes "sub") then option_map Sub (number_element (i + 1) d) else None) (word_at i d)
    else None

-- a place below a node
unfoldable pub place_below : List ℕ → ℕ → Option Place
place_below word n =
    if bytes_eq word (codes "source") then Some (Source n)
    else if bytes_eq word (codes "inner") then Some (Inner n)
    else if bytes_eq word (codes "notifier") then Some (Notifier n)
    else None

-- ["open",PLACE,n,KIND]
unfoldable pub open_below : List ℕ → Data → Option Event
open_below word d =
    option_and_then (λ n. option_and_then (λ place. option_map (Open place) (kind_from 3 d)) (place_below word n)) (number_element 2 d)

-- ["open","root",KIND], or below a node
unfoldable pub open_by : List ℕ → Data → Option Event
open_by word d = if bytes_eq word (codes "root") then option_map (Open Root) (kind_from 2 d) else open_below word d

unfoldable pub open_event_of : Data → Option Event
open_event_of d = option_and_then (λ word. open_by word d) (word_at 1 d)

-- ends --------------------------------------------------------------------------------------------

-- an error's code fits 32 bits
abbrev pub error_of_code : ℕ → Option Terminal
error_of_code n = if nat_lt n (2 ^ 32) then Some (Error n) else None

-- "completed", or two parts, "error" and its code
unfoldable pub terminal_by : List ℕ → Data → Option Terminal
terminal_by word d =
    if bytes_eq word (codes "completed") then (if has_count 3 d then Some Completed else None)
    else if bytes_eq word (codes "error") then (if has_count 4 d then option_and_then error_of_code (number_element 3 d) else None)
    else None

unfoldable pub end_event_of : Data → Option Event
end_event_of d =
    option_and_then (λ n. option_map (End n) (option_and_then (λ word. terminal_by word d) (word_at 2 d))) (number_element 1 d)

-- the other events of more than one number --------------------------------------------------------

unfoldable pub mode_by_word : List ℕ → Option Mode
mode_by_word word =
    if bytes_eq word (codes "auto") then Some Auto
    else if bytes_eq word (codes "manual") then Some Manual
    else None

-- ["hub","auto"], ["hub","manual"]
unfoldable pub hub_of : Data → Option Event
hub_of d = if has_count 2 d then option_map Hub (option_and_then mode_by_word (word_at 1 d)) else None

-- ["accept",node,tag]
unfoldable pub accept_of : Data → Option Event
accept_of d =
    if has_count 3 d then option_and_then (λ n. option_map (Accept n) (number_element 2 d)) (number_element 1 d) else None

-- ["item",leaf,value]
unfoldable pub item_event_of : Data → Option Event
item_event_of d = if has_count 3 d then option_and_then (λ n. option_map (Item n) (value_element 2 d)) (number_element 1 d) else None

-- histories ---------------------------------------------------------------------------------------

unfoldable pub resource_event_by : List ℕ → Data → Option Event
resource_event_by word d =
    if bytes_eq word (codes "accept") then accept_of d
    else if bytes_eq word (codes "use") then option_map Use (only_number d)
    else if bytes_eq word (codes "remove") then option_map Remove (only_number d)
    else if bytes_eq word (codes "lease") then option_map Lease (only_number d)
    else if bytes_eq word (codes "return") then option_map Return (only_number d)
    else if bytes_eq word (codes "take") then option_map Take (only_number d)
    else None

-- an event of a node or a hub, or by another word of a resource
unfoldable pub event_by_word : List ℕ → Data → Option Event
event_by_word word d =
    if bytes_eq word (codes "open") then open_event_of d
    else if bytes_eq word (codes "hub") then hub_of d
    else if bytes_eq word (codes "connect") then option_map Connect (only_number d)
    else if bytes_eq word (codes "item") then item_event_of d
    else if bytes_eq word (codes "decline") then option_map Decline (only_number d)
    else if bytes_eq word (codes "end") then end_event_of d
    else if bytes_eq word (codes "close") then option_map Close (only_number d)
    else resource_event_by word d

-- the event, by its first part
unfoldable pub event_of : Data → Option Event
event_of d = option_and_then (λ word. event_by_word word d) (word_at 0 d)

abbrev pub each_event : Items → Option (List Event)
each_event no_items = Some []
each_event (item d ds) = option_and_then (λ e. option_map (λ es. e ∷ es) (each_event ds)) (event_of d)

-- an array of nothing but events
unfoldable pub history_of : Data → Option (List Event)
history_of d = option_and_then each_event (as_array d)
