-- What the record of a node and of a hub says.
use Rattle.std.specs.Prelude.{◌≡◌, ℕ, ◌==◌, ◌&&◌, Bool, true, false, List, Option, Some, is_some, IsSome, slice_get}
use Rattle.std.specs.List.{list_any}
use Rattle.std.specs.Option.{option_map_or}
use Rattle.rx_event.specs.Kept.{Kept}
use Rattle.rx_event.specs.Marks.{Marks}
use Rattle.rx_event.specs.declared.event.Place.{Place}
use Rattle.rx_event.specs.declared.event.Place.TheVariants.{Root, Source, Inner, Notifier}
use Rattle.rx_event.specs.declared.event.Event.{Event}
use Rattle.rx_event.specs.declared.event.Event.TheVariants.{Hub}
use Rattle.rx_event.specs.declared.event.Kind.{Kind}
use Rattle.rx_event.specs.declared.event.Kind.TheVariants.{Sub}
use Rattle.rx_event.specs.Events.{has_source, is_manual_hub, is_merging, is_until}
use Rattle.rx_event.specs.Tree.{at, ancestors, is_open}
use Rattle.rx_event.specs.Marks.{marks_of}
use Rattle.rx_slots.specs.declared.Key.{Key}
use Rattle.rx_slots.specs.Slots.{Slots, find}
use Rattle.rx_tree.specs.declared.node.Node.{Node}
use Rattle.rx_hub.specs.declared.hub.Published.{Published}
use Rattle.rx_hub.specs.Hubs.{Hub as HubAt, StandsAt, find_hub}
use Rattle.rx_event.specs.Causes.{has_connection, connects_up_to, is_without_hub, forces_connect}
use Rattle.rx_ground.specs.declared.hubs.Found.{Found}

-- the key is an open node's, and its record says which event made it and how the history marks it
pub record IsTold (base : Kept) (h : List Event) (nodes : Slots Node) (key : Key) (node : Node) : Type 0 where
  pub there : is_some (find nodes key) ≡ true
  pub alive : is_open h key.number ≡ true
  pub made : slice_get h key.number ≡ Some node.made
  pub marks : node.marks ≡ marks_of base h key.number

-- a node that this event made has such a place
abbrev pub has_place : Event → Place → Bool
has_place made Root = true
has_place made (Source p) = has_source made
has_place made (Inner p) = is_merging made
has_place made (Notifier p) = is_until made

-- a node with these marks had its source or its notifier opened, which the place is
abbrev pub is_used : Marks → Place → Bool
is_used m Root = false
is_used m (Source p) = m.source_opened
is_used m (Inner p) = false
is_used m (Notifier p) = m.notifier_opened

-- a node with these marks owes nothing, where the place is an inner's
abbrev pub is_unowed : Marks → Place → Bool
is_unowed m Root = false
is_unowed m (Source p) = false
is_unowed m (Inner p) = m.owed == 0
is_unowed m (Notifier p) = false

-- a hub of this number was made in this mode, and it has an open connection just where one is kept
pub record IsHubTold (h : List Event) (g : ℕ) (p : Published) : Type 0 where
  pub made : slice_get h g ≡ Some (Hub p.mode)
  pub connection : is_some p.connection ≡ has_connection h g

-- where the hub is there that a node of this kind subscribes to, it stands at this index
abbrev pub IsFoundAt : List HubAt → Kind → (index : ℕ) → Type 0
IsFoundAt hubs kind index = (g : ℕ) → kind ≡ Sub g → IsSome (find_hub hubs g) → StandsAt hubs index g

-- what is found of that hub: whether it is missing, whether the opening connects it, and where it stands
pub record IsFound (h : List Event) (hubs : List HubAt) (kind : Kind) (found : Found) : Type 0 where
  pub missing : found.is_missing ≡ is_without_hub h kind
  pub connects : found.connects ≡ forces_connect h kind
  pub stands : IsFoundAt hubs kind found.index

-- a caller connects the hub of this number, and it has an open connection
abbrev pub is_connected_manual : List Event → ℕ → Bool
is_connected_manual h g = at is_manual_hub h g && has_connection h g

-- this node, where there is one, or one above it connects the hub of this number or an earlier one
abbrev pub is_inside_up_to : List Event → ℕ → Option ℕ → Bool
is_inside_up_to h g node = option_map_or (λ n. list_any (at (connects_up_to g) h) (ancestors h n)) node false
