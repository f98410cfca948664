-- An event as the caller has it: what it is, and its parts by number.
use Rattle.std.specs.Prelude.{ℕ, pos}
use Rattle.rx_note.specs.declared.note.Terminal.{Terminal}
use Rattle.rx_note.specs.declared.note.Terminal.TheVariants.{Completed, Error}
use Rattle.rx_event.specs.declared.event.Place.{Place}
use Rattle.rx_event.specs.declared.event.Kind.{Kind}
use Rattle.rx_event.specs.declared.event.Mode.TheVariants.{Auto, Manual}
use Rattle.rx_event.specs.declared.event.Event.{Event}
use Rattle.rx_event.specs.declared.event.Place.TheVariants.{Root, Source, Inner, Notifier}
use Rattle.rx_event.specs.declared.event.Kind.TheVariants.{Leaf, Pass, Flat, Switch, Until, Sub}
use Rattle.rx_event.specs.declared.event.Event.TheVariants.{Open, Hub, Connect, Accept, Use, Remove, Lease, Return, Item, Decline, End, Close, Take}
use Rattle.rx_cellar.specs.declared.reading.Event.{Event as Shown}

abbrev pub no_event : Shown
no_event = record { what = 0; place = 0; kind = 0; how = 0; spare = 0; of = 0; other = 0; value = pos 0 }

-- the code of a place, and the number of the node above
abbrev pub place_code : Place → ℕ × ℕ
place_code Root = (0, 0)
place_code (Source above) = (1, above)
place_code (Inner above) = (2, above)
place_code (Notifier above) = (3, above)

-- the code of a kind, and the number of its hub
abbrev pub kind_code : Kind → ℕ × ℕ
kind_code Leaf = (0, 0)
kind_code Pass = (1, 0)
kind_code Flat = (2, 0)
kind_code Switch = (3, 0)
kind_code Until = (4, 0)
kind_code (Sub hub) = (5, hub)

abbrev pub opened_event : Place → Kind → Shown
opened_event place kind = record no_event { place = (place_code place).0; of = (place_code place).1; kind = (kind_code kind).0; other = (kind_code kind).1 }

abbrev pub ended_event : ℕ → Terminal → Shown
ended_event node Completed = record no_event { what = 10; of = node }
ended_event node (Error code) = record no_event { what = 10; of = node; how = 1; value = pos code }

abbrev pub event_of : Event → Shown
event_of (Open place kind) = opened_event place kind
event_of (Hub Auto) = record no_event { what = 1 }
event_of (Hub Manual) = record no_event { what = 1; how = 1 }
event_of (Connect hub) = record no_event { what = 2; of = hub }
event_of (Accept node tag) = record no_event { what = 3; of = node; other = tag }
event_of (Use res) = record no_event { what = 4; of = res }
event_of (Remove res) = record no_event { what = 5; of = res }
event_of (Lease res) = record no_event { what = 6; of = res }
event_of (Return lease) = record no_event { what = 7; of = lease }
event_of (Item leaf value) = record no_event { what = 8; of = leaf; value = value }
event_of (Decline merging) = record no_event { what = 9; of = merging }
event_of (End node terminal) = ended_event node terminal
event_of (Close node) = record no_event { what = 11; of = node }
event_of (Take res) = record no_event { what = 12; of = res }
