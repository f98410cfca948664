-- The dump of a history: an array of its events in serde_json's compact text, and a newline.
use Rattle.std.specs.Prelude.{◌∷◌, ◌++◌, codes}
use Rattle.rx_dump.specs.Imports.{ℕ, List, [], flat_map, decimal, signed_decimal, Terminal, Completed, Error, Place, Root, Source, Inner, Notifier}
use Rattle.rx_dump.specs.Imports.{Kind, Leaf, Pass, Flat, Switch, Until, Sub, Mode, Auto, Manual, Event}
use Rattle.rx_event.specs.declared.event.Event.TheVariants.{Open, Hub, Connect, Accept, Use, Remove, Lease, Return, Item, Decline, End, Close, Take}

abbrev pub place_text : Place → List ℕ
place_text Root = codes "\"root\""
place_text (Source n) = codes "\"source\"," ++ decimal n
place_text (Inner n) = codes "\"inner\"," ++ decimal n
place_text (Notifier n) = codes "\"notifier\"," ++ decimal n

abbrev pub kind_text : Kind → List ℕ
kind_text Leaf = codes "\"leaf\""
kind_text Pass = codes "\"pass\""
kind_text Flat = codes "\"flat\""
kind_text Switch = codes "\"switch\""
kind_text Until = codes "\"until\""
kind_text (Sub hub) = codes "\"sub\"," ++ decimal hub

abbrev pub mode_text : Mode → List ℕ
mode_text Auto = codes "\"auto\""
mode_text Manual = codes "\"manual\""

abbrev pub terminal_text : Terminal → List ℕ
terminal_text Completed = codes "\"completed\""
terminal_text (Error code) = codes "\"error\"," ++ decimal code

unfoldable pub event_text : Event → List ℕ
event_text (Open place kind) = codes "[\"open\"," ++ place_text place ++ codes "," ++ kind_text kind ++ codes "]"
event_text (Hub mode) = codes "[\"hub\"," ++ mode_text mode ++ codes "]"
event_text (Connect hub) = codes "[\"connect\"," ++ decimal hub ++ codes "]"
event_text (Accept node tag) = codes "[\"accept\"," ++ decimal node ++ codes "," ++ decimal tag ++ codes "]"
event_text (Use res) = codes "[\"use\"," ++ decimal res ++ codes "]"
event_text (Remove res) = codes "[\"remove\"," ++ decimal res ++ codes "]"
event_text (Lease res) = codes "[\"lease\"," ++ decimal res ++ codes "]"
event_text (Return lease) = codes "[\"return\"," ++ decimal lease ++ codes "]"
event_text (Item leaf value) = codes "[\"item\"," ++ decimal leaf ++ codes "," ++ signed_decimal value ++ codes "]"
event_text (Decline node) = codes "[\"decline\"," ++ decimal node ++ codes "]"
event_text (End node terminal) = codes "[\"end\"," ++ decimal node ++ codes "," ++ terminal_text terminal ++ codes "]"
event_text (Close node) = codes "[\"close\"," ++ decimal node ++ codes "]"
event_text (Take res) = codes "[\"take\"," ++ decimal res ++ codes "]"

-- an event that another one precedes
abbrev pub following_event_text : Event → List ℕ
following_event_text e = codes "," ++ event_text e

abbrev pub events_text : List Event → List ℕ
events_text [] = []
events_text (e ∷ es) = event_text e ++ flat_map following_event_text es

-- the array with no space, and a newline
unfoldable pub dump : List Event → List ℕ
dump h = codes "[" ++ events_text h ++ codes "]\n"
