-- What is promised of hubs, for every history whose hubs they are.
use Rattle.std.specs.Prelude.{◌≡◌, ℕ, ◌<◌, ◌++◌, Bool, false, List, [], ◌∷◌, map, length, slice_get}
use Rattle.std.specs.Prelude.{Option, Some, None, IsTrue, IsSome}
use Rattle.std.specs.List.{filter_map}
use Rattle.rx_event.specs.Kept.{Kept}
use Rattle.rx_note.specs.declared.note.Terminal.{Terminal}
use Rattle.rx_event.specs.declared.event.Place.{Place}
use Rattle.rx_event.specs.declared.event.Place.TheVariants.{Inner}
use Rattle.rx_event.specs.declared.event.Kind.{Kind}
use Rattle.rx_event.specs.declared.event.Kind.TheVariants.{Sub}
use Rattle.rx_event.specs.declared.event.Mode.{Mode}
use Rattle.rx_event.specs.declared.event.Event.{Event}
use Rattle.rx_event.specs.declared.event.Event.TheVariants.{Open, Hub as Publish, Connect, End, Close}
use Rattle.rx_event.specs.Tree.{is_open, is_within}
use Rattle.rx_event.specs.Forced.{IsForced, IsSettled, IsConnected, IsDue, SourceEnded}
use Rattle.rx_event.specs.Climb.{climb, stops, visits}
use Rattle.rx_event.specs.Lawful.{MayFollow, IsLawful}
use Rattle.rx_event.specs.Claims.Nodes.{IsOpenInner}
use Rattle.rx_slots.specs.declared.Key.{Key}
use Rattle.rx_slots.specs.Slots.{Slots, find}
use Rattle.rx_tree.specs.declared.node.Node.{Node}
use Rattle.rx_tree.specs.Tree.{is_on}
use Rattle.rx_hub.specs.Operators.{IsQuiet as IsQuietTree}
use Rattle.rx_hub.specs.TreeRecords.{AreRecordsOf}
use Rattle.rx_hub.specs.TreeClaims.{numbered}
use Rattle.rx_hub.specs.declared.hub.HubDue.{HubDue}
use Rattle.rx_hub.specs.declared.hub.LastEnd.{LastEnd}
use Rattle.rx_hub.specs.After.{AgreeAt, end_by, ClosesNone, is_inside, with_made, joins_hubs}
use Rattle.rx_hub.specs.Closing.{without_gone}
use Rattle.rx_hub.specs.After.{next_key, hubs_after}
use Rattle.rx_hub.specs.Due.{event_of, IsDueIn, IsQuiet, NoneWaits}
use Rattle.rx_hub.specs.Hubs.{Hub, find_hub, at_hub, new_hub, subscribed, connected, AreBelow}
use Rattle.rx_hub.specs.Records.{AreHubsOf, numbers}
use Rattle.rx_hub.specs.Route.{IsOrdered}
use Rattle.rx_hub.specs.Walk.{IsWalk, climb_over, stops_over}

-- what is due at a hub is forced; and where nothing is due at any hub nor at any record, the history is settled
pub record HubsAreForced (base : Kept) : Type 0 where
  pub forced : (h : List Event) (hubs : List Hub) (d : HubDue) → AreHubsOf h hubs → IsDueIn hubs d → IsForced base h (event_of d)
  pub connected : (h : List Event) (hubs : List Hub) → AreHubsOf h hubs → NoneWaits hubs → IsConnected h
  pub whole : (h : List Event) (hubs : List Hub) → AreHubsOf h hubs → IsQuiet hubs → (n : ℕ) (t : Terminal) → IsTrue (is_open h n) → ¬ SourceEnded h n t
  pub kept : (h : List Event) (hubs : List Hub) → AreHubsOf h hubs → IsQuiet hubs → (c : ℕ) → ¬ IsDue base h (Close c)
  pub settled : (h : List Event) (nodes : Slots Node) (hubs : List Hub) → AreRecordsOf base h nodes → AreHubsOf h hubs → IsQuietTree nodes → IsQuiet hubs →
      IsSettled base h

-- where an item goes over tree and hubs is its climb in the history, and so are its stops and visits
pub record WalksAreClimbs (base : Kept) : Type 0 where
  pub climb : (h : List Event) (nodes : Slots Node) (hubs : List Hub) (key : Key) → IsWalk base h nodes hubs → IsSome (find nodes key) →
      climb h key.number ≡ numbers (climb_over nodes hubs key)
  pub stops : (h : List Event) (nodes : Slots Node) (hubs : List Hub) (key : Key) → IsWalk base h nodes hubs → IsSome (find nodes key) →
      stops h key.number ≡ filter_map numbered (stops_over nodes hubs key)
  pub visits : (h : List Event) (nodes : Slots Node) (hubs : List Hub) (key : Key) → IsWalk base h nodes hubs → IsSome (find nodes key) →
      visits h key.number ≡ length (climb_over nodes hubs key)

-- how one more event changes the hubs of a history: those that `hubs_after` gives are the hubs of the longer history
pub record HubsFollow (base : Kept) : Type 0 where
  pub follow : (h : List Event) (e : Event) (slot : ℕ) (hubs : List Hub) → IsLawful base h → MayFollow base h e →
      AreHubsOf h hubs → AreHubsOf (h ++ e ∷ []) (hubs_after h e slot hubs)
  -- an event that closes no node, makes no hub and opens no node of one: they stay the same
  pub same : (h : List Event) (e : Event) (slot : ℕ) (hubs : List Hub) → AreHubsOf h hubs → joins_hubs e ≡ false →
      ClosesNone h e → hubs_after h e slot hubs ≡ hubs
  pub stay : (h : List Event) (e : Event) (hubs : List Hub) → IsLawful base h → MayFollow base h e → AreHubsOf h hubs →
      joins_hubs e ≡ false → ClosesNone h e → AreHubsOf (h ++ e ∷ []) hubs
  -- a hub comes last
  pub publish : (h : List Event) (mode : Mode) (slot : ℕ) (hubs : List Hub) → AreHubsOf h hubs →
      hubs_after h (Publish mode) slot hubs ≡ hubs ++ new_hub (length h) mode ∷ []
  -- a subscriber comes last among those of its hub, where its opening closes no node
  pub subscribe : (h : List Event) (place : Place) (g slot : ℕ) (hubs : List Hub) → AreHubsOf h hubs →
      ClosesNone h (Open place (Sub g)) →
      hubs_after h (Open place (Sub g)) slot hubs ≡ at_hub g (subscribed (next_key h slot)) hubs
  -- a hub gets its connection
  pub connect : (h : List Event) (g slot : ℕ) (hubs : List Hub) → AreHubsOf h hubs →
      hubs_after h (Connect g) slot hubs ≡ at_hub g (connected (next_key h slot)) hubs
  -- an end and a closing: what stands inside that node goes, and a connection that ended leaves how
  pub end : (h : List Event) (n : ℕ) (t : Terminal) (slot : ℕ) (hubs : List Hub) → AreHubsOf h hubs →
      hubs_after h (End n t) slot hubs ≡ map (without_gone (is_inside h n) (end_by (length h) (End n t))) hubs
  pub close : (h : List Event) (n slot : ℕ) (hubs : List Hub) → AreHubsOf h hubs →
      hubs_after h (Close n) slot hubs ≡ map (without_gone (is_inside h n) None) hubs
  -- another inner of a Switch: what stands inside the open one goes, and then comes what is made
  pub exchange : {h : List Event} {f c : ℕ} (kind : Kind) (slot : ℕ) {hubs : List Hub} → IsLawful base h → AreHubsOf h hubs → IsOpenInner h f c →
      hubs_after h (Open (Inner f) kind) slot hubs ≡
      with_made (next_key h slot) (Open (Inner f) kind) (map (without_gone (is_inside h c) None) hubs)
  -- of what goes, only what is said of the hubs' keys counts
  pub agree : (one other : Key → Bool) (ended : Option LastEnd) (hubs : List Hub) →
      ((i : ℕ) (hub : Hub) → slice_get hubs i ≡ Some hub → AgreeAt one other hub) →
      map (without_gone one ended) hubs ≡ map (without_gone other ended) hubs

-- before an event that may follow, the hubs are ready for the call that writes it
pub record HubsReady (base : Kept) : Type 0 where
  -- a new hub comes after all others
  pub publish : (h : List Event) (hubs : List Hub) → AreHubsOf h hubs → (i : ℕ) (hub : Hub) →
      slice_get hubs i ≡ Some hub → hub.number < length h
  -- the hub that is subscribed to is there, and a subscriber comes after all others
  pub subscribe : (h : List Event) (place : Place) (g : ℕ) (hubs : List Hub) → MayFollow base h (Open place (Sub g)) →
      AreHubsOf h hubs → (hub : Hub) × (find_hub hubs g ≡ Some hub) × AreBelow (length h) hub.subscribers
  -- and so it is after a closing
  pub exchange : (h : List Event) (place : Place) (g : ℕ) (hubs : List Hub) (gone : Key → Bool) →
      (ended : Option LastEnd) → MayFollow base h (Open place (Sub g)) → AreHubsOf h hubs →
      (hub : Hub) × (find_hub (map (without_gone gone ended) hubs) g ≡ Some hub) × AreBelow (length h) hub.subscribers
  -- the hub that is connected is there, and has no connection
  pub connect : (h : List Event) (g : ℕ) (hubs : List Hub) → MayFollow base h (Connect g) → AreHubsOf h hubs →
      (hub : Hub) × (find_hub hubs g ≡ Some hub) × (hub.connection ≡ None)

-- a subscriber of the inner hub stands inside the connection of the outer
pub record SubscribesInside (h : List Event) (outer inner : Hub) : Type 0 where
  pub connection : Key
  pub subscriber : Key
  pub connects : outer.connection ≡ Some connection
  pub subscribes : IsTrue (is_on subscriber inner.subscribers)
  pub inside : IsTrue (is_within h connection.number subscriber.number)

-- a subscriber that stands inside a connection is of an earlier hub, so that no item goes round in a circle
pub record HubsInOrder (base : Kept) : Type 0 where
  pub earlier : {h : List Event} {hubs : List Hub} → IsLawful base h → AreHubsOf h hubs → (i j : ℕ) {outer inner : Hub} →
      slice_get hubs i ≡ Some outer → slice_get hubs j ≡ Some inner → SubscribesInside h outer inner → inner.number < outer.number
  -- over a tree: what climbs from a subscriber of a hub reaches connections of later hubs alone
  pub ordered : (h : List Event) (nodes : Slots Node) (hubs : List Hub) → IsLawful base h → IsWalk base h nodes hubs → IsOrdered nodes hubs
