-- What operators must do before a caller may go on. While a hub waits for its connection nothing else is forced; among the
-- rest the order is free.
use Rattle.std.specs.Prelude.{◌≡◌, ◌<◌}
use Rattle.rx_event.specs.Imports.{ℕ, Some, List, [], slice_get, IsTrue, false, Terminal, Completed, Error, Event, Connect, End, Close}
use Rattle.rx_event.specs.Kept.{Kept}
use Rattle.rx_event.specs.Marks.{source_completed}
use Rattle.rx_event.specs.Events.{is_mirroring, is_until, is_merging, is_auto_hub, is_subscriber_of}
use Rattle.rx_event.specs.Tree.{at, parent, is_open, open_subscribers, open_connections}
use Rattle.rx_event.specs.Moments.{owed, is_fired}

-- the event stands at some place
pub record Has (h : List Event) (e : Event) : Type 0 where
  pub place : ℕ
  pub found : slice_get h place ≡ Some e

-- some child of p ended in this way
pub record ChildEnded (h : List Event) (p : ℕ) (t : Terminal) : Type 0 where
  pub child : ℕ
  pub below : parent h child ≡ Some p
  pub ended : Has h (End child t)

-- a connection of the hub of s ended in this way after s was opened
pub record SourceEnded (h : List Event) (s : ℕ) (t : Terminal) : Type 0 where
  pub hub : ℕ
  pub connection : ℕ
  pub place : ℕ
  pub subscribes : IsTrue (at (is_subscriber_of hub) h s)
  pub connects : slice_get h connection ≡ Some (Connect hub)
  pub later : s < place
  pub ended : slice_get h place ≡ Some (End connection t)

-- what an operator has to do: the end or the closing of an open node
pub data IsDue (b : Kept) (h : List Event) : Event → Type 0 where
  -- Observable Contract, TakeUntil: a mirroring node passes on how its child ended
  mirrored : {p : ℕ} {t : Terminal} → IsTrue (is_open h p) → IsTrue (at is_mirroring h p) → ChildEnded h p t → IsDue b h (End p t)
  -- TakeUntil: the notifier emitted an item
  fired : {u : ℕ} → IsTrue (is_open h u) → IsTrue (at is_until h u) → IsTrue (is_fired h u) → IsDue b h (End u Completed)
  -- FlatMap, Switch: the source or an inner failed
  failed : {f c : ℕ} → IsTrue (is_open h f) → IsTrue (at is_merging h f) → ChildEnded h f (Error c) → IsDue b h (End f (Error c))
  -- FlatMap, Switch: nothing failed, the source has completed, no child is open, and nothing is owed
  completed : {f : ℕ} → IsTrue (is_open h f) → IsTrue (at is_merging h f) → ((c : ℕ) → ¬ ChildEnded h f (Error c)) → IsTrue (source_completed b h f) →
      ((c : ℕ) → parent h c ≡ Some f → is_open h c ≡ false) → owed b h f ≡ 0 → IsDue b h (End f Completed)
  -- Publish: the connection that a subscriber had ended
  cut : {s : ℕ} {t : Terminal} → IsTrue (is_open h s) → SourceEnded h s t → IsDue b h (End s t)
  -- RefCount: the last subscriber has gone
  left : {c g : ℕ} → IsTrue (is_open h c) → slice_get h c ≡ Some (Connect g) → IsTrue (at is_auto_hub h g) → open_subscribers h g ≡ [] → IsDue b h (Close c)

-- RefCount: a hub has a subscriber that waits for a connection, and none is open
pub record IsConnectDue (h : List Event) (g : ℕ) : Type 0 where
  pub auto : IsTrue (at is_auto_hub h g)
  pub subscriber : ℕ
  pub subscribes : IsTrue (at (is_subscriber_of g) h subscriber)
  pub subscribed : IsTrue (is_open h subscriber)
  pub waits : (t : Terminal) → ¬ SourceEnded h subscriber t
  pub unconnected : open_connections h g ≡ []

-- no hub waits for a connection
abbrev pub IsConnected : List Event → Type 0
IsConnected h = (g : ℕ) → ¬ IsConnectDue h g

-- so many hubs may wait: none, or one
pub data MayWait (h : List Event) : ℕ → Type 0 where
  none_waits : IsConnected h → MayWait h 0
  one_waits : {g : ℕ} → ((k : ℕ) → IsConnectDue h k → k ≡ g) → MayWait h 1

-- the event must come before a caller may go on
pub data IsForced (b : Kept) (h : List Event) : Event → Type 0 where
  connecting : {g : ℕ} → IsConnectDue h g → IsForced b h (Connect g)
  due : {e : Event} → IsConnected h → IsDue b h e → IsForced b h e

-- no operator's rule is left undone
pub record IsSettled (b : Kept) (h : List Event) : Type 0 where
  pub none : (e : Event) → ¬ IsForced b h e
