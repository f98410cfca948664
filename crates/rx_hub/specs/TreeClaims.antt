-- What is promised of ways and of what is due, for every history whose records a tree has.
use Rattle.std.specs.Prelude.{◌≡◌, ℕ, suc, ◌-◌, Option, Some, None, List, ◌++◌, length, IsSome, IsTrue, false}
use Rattle.std.specs.List.{filter_map, list_any}
use Rattle.std.specs.Option.{option_and_then, option_to_list}
use Rattle.rx_event.specs.Kept.{Kept}
use Rattle.rx_note.specs.declared.note.Terminal.{Terminal}
use Rattle.rx_event.specs.declared.event.Event.{Event}
use Rattle.rx_event.specs.declared.event.Event.TheVariants.{Connect, End, Close}
use Rattle.rx_event.specs.Events.{makes_hub}
use Rattle.rx_event.specs.Tree.{is_open, open_subscribers}
use Rattle.rx_event.specs.Climb.{Stop as NumberedStop, Delivery as DeliveryTo, Projection as ProjectionTo, Firing as FiringOf}
use Rattle.rx_event.specs.Climb.{stop_at, visited, most_visits, climb, stops}
use Rattle.rx_event.specs.Forced.{IsForced, IsSettled, IsConnected, IsDue, SourceEnded}
use Rattle.rx_event.specs.Lawful.{IsLawful}
use Rattle.rx_slots.specs.declared.Key.{Key}
use Rattle.rx_slots.specs.Slots.{Slots, find}
use Rattle.rx_tree.specs.declared.node.Node.{Node}
use Rattle.rx_tree.specs.Tree.{IsSound}
use Rattle.rx_hub.specs.declared.stop.Stop.{Stop}
use Rattle.rx_hub.specs.declared.stop.Stop.TheVariants.{Delivery, Projection, Firing, Connection}
use Rattle.rx_hub.specs.Way.{made_of, way, end_of}
use Rattle.rx_hub.specs.declared.operators.Due.{Due}
use Rattle.rx_hub.specs.Operators.{IsDueAt, IsDueIn, IsQuiet}
use Rattle.rx_hub.specs.TreeRecords.{AreRecordsOf}
use Rattle.rx_hub.specs.Records.{numbers}

-- a stop by its node's number; a connection is none in a history
abbrev pub numbered : Stop → Option NumberedStop
numbered (Delivery key) = Some (DeliveryTo key.number)
numbered (Projection key) = Some (ProjectionTo key.number)
numbered (Firing key) = Some (FiringOf key.number)
numbered (Connection key) = None

-- a way inside one tree, from a node that is found
pub record IsWay (base : Kept) (h : List Event) (nodes : Slots Node) (key : Key) : Type 0 where
  pub sound : IsSound nodes
  pub records : AreRecordsOf base h nodes
  pub found : IsSome (find nodes key)

-- where nodes stop, the way is the climb
pub record WaysAreClimbs (base : Kept) : Type 0 where
  -- the way that reaches no connection is the whole climb, and the stop the only one
  pub whole : (h : List Event) (nodes : Slots Node) (key : Key) → IsWay base h nodes key →
      ((c : Key) → ¬ (end_of nodes (way nodes key) ≡ Some (Connection c))) →
      climb h key.number ≡ numbers (way nodes key)
  pub alone : (h : List Event) (nodes : Slots Node) (key : Key) → IsWay base h nodes key →
      ((c : Key) → ¬ (end_of nodes (way nodes key) ≡ Some (Connection c))) →
      stops h key.number ≡ option_to_list (option_and_then numbered (end_of nodes (way nodes key)))
  -- from a connection the climb goes on to the open subscribers of its hub, as far as the limit lets it
  pub connected_climb : (h : List Event) (nodes : Slots Node) (key c : Key) (g : ℕ) → IsWay base h nodes key →
      end_of nodes (way nodes key) ≡ Some (Connection c) → made_of nodes c ≡ Some (Connect g) →
      climb h key.number ≡ numbers (way nodes key) ++ visited (suc most_visits - length (way nodes key)) h (open_subscribers h g)
  pub connected_stops : (h : List Event) (nodes : Slots Node) (key c : Key) (g : ℕ) → IsWay base h nodes key →
      end_of nodes (way nodes key) ≡ Some (Connection c) → made_of nodes c ≡ Some (Connect g) →
      stops h key.number ≡ filter_map (stop_at h) (visited (suc most_visits - length (way nodes key)) h (open_subscribers h g))

-- what is due at a record is forced, where no hub waits; and where nothing is, and hubs force nothing, the history is settled
pub record DueIsForced (base : Kept) : Type 0 where
  pub forced : (h : List Event) (nodes : Slots Node) (e : Event) → AreRecordsOf base h nodes → IsConnected h →
      IsDueIn nodes e → IsForced base h e
  -- and so is the end of a node that has to end
  pub ends : (h : List Event) (nodes : Slots Node) (due : Due) → AreRecordsOf base h nodes → IsConnected h →
      IsDueAt nodes due → IsForced base h (End due.node.number due.terminal)
  pub settled : (h : List Event) (nodes : Slots Node) → AreRecordsOf base h nodes → IsQuiet nodes → IsConnected h →
      ((n : ℕ) (t : Terminal) → IsTrue (is_open h n) → ¬ SourceEnded h n t) → ((c : ℕ) → ¬ IsDue base h (Close c)) →
      IsSettled base h
  -- as without hubs
  pub hubless : (h : List Event) (nodes : Slots Node) → IsLawful base h → AreRecordsOf base h nodes → IsQuiet nodes →
      list_any makes_hub h ≡ false → IsSettled base h
  pub quiet : (h : List Event) (nodes : Slots Node) → AreRecordsOf base h nodes → IsSettled base h → IsQuiet nodes
