-- What callers may do. A number that names nothing of the needed sort is never allowed.
use Rattle.std.specs.Prelude.{◌≡◌, ◌+◌, ◌<◌, ◌≤◌, ◌∷◌, ◌++◌}
use Rattle.rx_event.specs.Imports.{ℕ, ℤ, Bool, false, Some, List, [], length, slice_get, IsTrue, Terminal, Error, Place}
use Rattle.rx_event.specs.Imports.{Root, Source, Inner, Notifier, Kind, Leaf, Pass, Flat, Switch, Until, Sub, Mode, Event, Open, Hub, Connect, Accept, Use}
use Rattle.rx_event.specs.Imports.{Remove, Lease, Return, Item, Decline, End, Close, Take}
use Rattle.rx_event.specs.Events.{makes_hub, has_source, is_leaf, is_merging, is_until, is_root, is_manual_hub}
use Rattle.rx_event.specs.Kept.{Kept}
use Rattle.rx_event.specs.Opened.{source_opened, notifier_opened}
use Rattle.rx_event.specs.Tree.{at, hubs, is_open, is_within, open_nodes, open_connections, parent}
use Rattle.rx_event.specs.Resources.{is_owned, is_out, is_held, is_waiting}
use Rattle.rx_event.specs.Climb.{visits, most_visits}
use Rattle.rx_event.specs.Moments.{owed}
use Rattle.rx_event.specs.Forced.{IsConnectDue}

-- limits of this project's own
unfoldable pub most_nodes : ℕ
most_nodes = 1048576

unfoldable pub most_hubs : ℕ
most_hubs = 1024

-- a node may be opened at the place
abbrev pub IsFree : Kept → List Event → Place → Type 0
IsFree b h Root = Unit {0}
IsFree b h (Source p) = IsTrue (is_open h p) × IsTrue (at has_source h p) × (source_opened b h p ≡ false)
IsFree b h (Inner p) = IsTrue (is_open h p) × IsTrue (at is_merging h p) × (0 < owed b h p)
IsFree b h (Notifier p) = IsTrue (is_open h p) × IsTrue (at is_until h p) × (notifier_opened b h p ≡ false)

-- every connection at or above node p is of a later hub than g, so that no item goes round in a circle
abbrev pub IsInOrderAt : List Event → ℕ → ℕ → Type 0
IsInOrderAt h g p = (a k : ℕ) → IsTrue (is_within h a p) → slice_get h a ≡ Some (Connect k) → g < k

abbrev pub IsInOrder : List Event → ℕ → Place → Type 0
IsInOrder h g Root = Unit {0}
IsInOrder h g (Source p) = IsInOrderAt h g p
IsInOrder h g (Inner p) = IsInOrderAt h g p
IsInOrder h g (Notifier p) = IsInOrderAt h g p

-- the hub of a subscriber is there, and in order
abbrev pub IsHubbed : List Event → Place → Kind → Type 0
IsHubbed h place (Sub g) = IsTrue (at makes_hub h g) × IsInOrder h g place
IsHubbed h place Leaf = Unit {0}
IsHubbed h place Pass = Unit {0}
IsHubbed h place Flat = Unit {0}
IsHubbed h place Switch = Unit {0}
IsHubbed h place Until = Unit {0}

-- a node that a caller may end with an error, where it has no open child: neither a leaf nor a subscriber
abbrev pub may_abort : Event → Bool
may_abort e = has_source e

-- a caller's event may come next
pub data IsAllowed (b : Kept) (h : List Event) : Event → Type 0 where
  opened : {place : Place} {kind : Kind} → IsFree b h place → IsHubbed h place kind → length (open_nodes h) + 1 ≤ most_nodes →
      ((g : ℕ) → IsConnectDue (h ++ Open place kind ∷ []) g → length (open_nodes h) + 2 ≤ most_nodes) → IsAllowed b h (Open place kind)
  published : {mode : Mode} → length (hubs h) < most_hubs → IsAllowed b h (Hub mode)
  connected : {g : ℕ} → IsTrue (at is_manual_hub h g) → open_connections h g ≡ [] → length (open_nodes h) < most_nodes → IsAllowed b h (Connect g)
  accepted : {n tag : ℕ} → IsTrue (is_open h n) → IsAllowed b h (Accept n tag)
  used : {r : ℕ} → IsTrue (is_held h r) → IsAllowed b h (Use r)
  removed : {r : ℕ} → IsTrue (is_owned h r) → IsAllowed b h (Remove r)
  leased : {r : ℕ} → IsTrue (is_owned h r) → IsAllowed b h (Lease r)
  returned : {l : ℕ} → IsTrue (is_out h l) → IsAllowed b h (Return l)
  emitted : {l : ℕ} {value : ℤ} → IsTrue (is_open h l) → IsTrue (at is_leaf h l) → visits h l ≤ most_visits → IsAllowed b h (Item l value)
  declined : {f : ℕ} → IsTrue (is_open h f) → IsTrue (at is_merging h f) → 0 < owed b h f → IsAllowed b h (Decline f)
  leaf_ended : {l : ℕ} {t : Terminal} → IsTrue (is_open h l) → IsTrue (at is_leaf h l) → IsAllowed b h (End l t)
  aborted : {n c : ℕ} → IsTrue (is_open h n) → IsTrue (at may_abort h n) → ((d : ℕ) → parent h d ≡ Some n → is_open h d ≡ false) →
      IsAllowed b h (End n (Error c))
  projection_failed : {f c : ℕ} → IsTrue (is_open h f) → IsTrue (at is_merging h f) → 0 < owed b h f → IsAllowed b h (End f (Error c))
  root_closed : {n : ℕ} → IsTrue (is_open h n) → IsTrue (at is_root h n) → IsAllowed b h (Close n)
  disconnected : {c g : ℕ} → IsTrue (is_open h c) → slice_get h c ≡ Some (Connect g) → IsTrue (at is_manual_hub h g) → IsAllowed b h (Close c)
  taken : {r : ℕ} → IsTrue (is_waiting h r) → IsAllowed b h (Take r)
