-- What an event says that is stored as words and numbers.
use Rattle.rx_event.specs.Imports.{ℕ, Event, Kind, Place}
use Rattle.rx_note.specs.declared.Terminal.TheVariants.{Completed, Error}
use Rattle.rx_event.specs.declared.stored.KindWord.{KindWord}
use Rattle.rx_event.specs.declared.stored.PlaceWord.{PlaceWord}
use Rattle.rx_event.specs.declared.stored.StoredEvent.{StoredEvent}

-- what is told by a word and a number
abbrev pub place_at : PlaceWord → ℕ → Place
place_at PlaceWord.Root n = Place.Root
place_at PlaceWord.Source n = Place.Source n
place_at PlaceWord.Inner n = Place.Inner n
place_at PlaceWord.Notifier n = Place.Notifier n

abbrev pub kind_at : KindWord → ℕ → Kind
kind_at KindWord.Leaf g = Kind.Leaf
kind_at KindWord.Pass g = Kind.Pass
kind_at KindWord.Flat g = Kind.Flat
kind_at KindWord.Switch g = Kind.Switch
kind_at KindWord.Until g = Kind.Until
kind_at KindWord.Sub g = Kind.Sub g

-- the number that goes with the word
abbrev pub above_in : Place → ℕ
above_in Place.Root = 0
above_in (Place.Source n) = n
above_in (Place.Inner n) = n
above_in (Place.Notifier n) = n

abbrev pub hub_in : Kind → ℕ
hub_in (Kind.Sub g) = g
hub_in _ = 0

-- the event that is stored
abbrev pub event_of : StoredEvent → Event
event_of (StoredEvent.Open place kind above hub) = Event.Open (place_at place above) (kind_at kind hub)
event_of (StoredEvent.Hub mode) = Event.Hub mode
event_of (StoredEvent.Connect hub) = Event.Connect hub
event_of (StoredEvent.Accept node tag) = Event.Accept node tag
event_of (StoredEvent.Use res) = Event.Use res
event_of (StoredEvent.Remove res) = Event.Remove res
event_of (StoredEvent.Lease res) = Event.Lease res
event_of (StoredEvent.Return lease) = Event.Return lease
event_of (StoredEvent.Item node value) = Event.Item node value
event_of (StoredEvent.Decline node) = Event.Decline node
event_of (StoredEvent.Complete node) = Event.End node Completed
event_of (StoredEvent.Fail code node) = Event.End node (Error code)
event_of (StoredEvent.Close node) = Event.Close node
event_of (StoredEvent.Take res) = Event.Take res
