-- What things are called in a picture. All that these texts take from a history are numbers, and names of numbers.
use Rattle.std.specs.Prelude.{ℕ, Option, List, ◌++◌, codes}
use Rattle.std.specs.Fmt.{decimal, signed_decimal}
use Rattle.rx_note.specs.declared.note.Terminal.{Terminal}
use Rattle.rx_note.specs.declared.note.Terminal.TheVariants.{Completed, Error}
use Rattle.rx_event.specs.declared.event.Place.{Place}
use Rattle.rx_event.specs.declared.event.Place.TheVariants.{Root, Source, Inner, Notifier}
use Rattle.rx_event.specs.declared.event.Kind.{Kind}
use Rattle.rx_event.specs.declared.event.Kind.TheVariants.{Leaf, Pass, Flat, Switch, Until, Sub}
use Rattle.rx_event.specs.declared.event.Mode.{Mode}
use Rattle.rx_event.specs.declared.event.Mode.TheVariants.{Auto, Manual}
use Rattle.rx_event.specs.declared.event.Event.{Event}
use Rattle.rx_event.specs.declared.event.Event.TheVariants.{Open, Hub, Connect, Accept, Use, Remove, Lease, Return, Item, Decline, End, Close, Take}
use Rattle.rx_svg.specs.Name.{name_label}

unfoldable pub kind_label : Kind → List ℕ
kind_label Leaf = codes " leaf"
kind_label Pass = codes " mirror"
kind_label Flat = codes " FlatMap"
kind_label Switch = codes " Switch"
kind_label Until = codes " TakeUntil"
kind_label (Sub g) = codes " subscriber of hub " ++ decimal g

unfoldable pub place_label : Place → List ℕ
place_label Root = codes ", root"
place_label (Source p) = codes ", source of " ++ decimal p
place_label (Inner p) = codes ", inner of " ++ decimal p
place_label (Notifier p) = codes ", notifier of " ++ decimal p

unfoldable pub mode_label : Mode → List ℕ
mode_label Auto = codes " hub, RefCount"
mode_label Manual = codes " hub"

unfoldable pub terminal_label : Terminal → List ℕ
terminal_label Completed = codes " completed"
terminal_label (Error code) = codes " error " ++ decimal code

-- what an event did; of one that makes something, what it made
unfoldable pub event_label : Event → List ℕ
event_label (Open place kind) = kind_label kind ++ place_label place
event_label (Hub mode) = mode_label mode
event_label (Connect g) = codes " connection of hub " ++ decimal g
event_label (Accept n tag) = codes " resource of " ++ decimal n ++ codes ", tag " ++ decimal tag
event_label (Use r) = codes " use of " ++ decimal r
event_label (Remove r) = codes " removal of " ++ decimal r
event_label (Lease r) = codes " lease of " ++ decimal r
event_label (Return l) = codes " return of lease " ++ decimal l
event_label (Item n value) = codes " item " ++ signed_decimal value ++ codes " of " ++ decimal n
event_label (Decline f) = codes " no inner for an item of " ++ decimal f
event_label (End n t) = codes " end of " ++ decimal n ++ codes ":" ++ terminal_label t
event_label (Close n) = codes " closing of " ++ decimal n
event_label (Take r) = codes " release of " ++ decimal r

-- what the event made, with its number and its name
unfoldable pub called_text : ℕ → Option (List ℕ) → Event → List ℕ
called_text n name made = decimal n ++ name_label name ++ event_label made
