-- What a live book is: its book, and which names are bound.
use Rattle.std.specs.Prelude.{◌≡◌, ℕ, ◌≤◌, ◌&&◌, ◌||◌, Bool, false, Option, Some, None, List, length}
use Rattle.std.specs.Prelude.{is_some, option_map, option_and_then, string_bytes, if◌then◌else◌}
use Rattle.std.specs.Str.{bytes_eq}
use Rattle.std.specs.Option.{option_map_or}
use Rattle.rx_event.specs.declared.event.Event.{Event}
use Rattle.rx_event.specs.declared.mail.Mail.{Mail}
use Rattle.rx_event.specs.Resources.{is_out}
use Rattle.rx_scenario.specs.Scenario.{Name}
use Rattle.rx_slots.specs.declared.Key.{Key}
use Rattle.rx_tree.specs.declared.node.ResKey.{ResKey}
use Rattle.rx_ground.specs.declared.leases.LeaseKey.{LeaseKey}
use Rattle.rx_book.specs.State.{State, has_key, is_kept, IsPromised}
use Rattle.rx_line.specs.declared.names.Spot.{Spot}
use Rattle.rx_line.specs.declared.names.Names.{Names}
use Rattle.rx_line.specs.Names.{spot_of, name_of_number, IsPaired}
use Rattle.rx_live.specs.declared.engine.Engine.{Engine}

-- its book, its names, and what was taken from the book and, in want of memory, is still to be told: a note, a resource's name
pub record Session : Type 0 where
  pub book : State
  pub nodes : Names
  pub hubs : Names
  pub resources : Names
  pub leases : Names
  pub untold : Option Mail
  pub unnamed : Option Name

-- the session that an engine is at
abbrev pub session_of : Engine → Session
session_of l =
    record {
      book = l.book;
      nodes = l.nodes;
      hubs = l.hubs;
      resources = l.resources;
      leases = l.leases;
      untold = l.untold;
      unnamed = option_map string_bytes l.unnamed;
    }

-- what a name is bound to ----------------------------------------------------------------------------

abbrev pub node_key_at : Spot → Key
node_key_at s = record { slot = s.slot; number = s.number }

abbrev pub res_key_at : Spot → ResKey
res_key_at s = record { slot = s.slot; number = s.number }

abbrev pub lease_key_at : Spot → LeaseKey
lease_key_at s = record { slot = s.slot; number = s.number }

abbrev pub key_if_open : State → Key → Option Key
key_if_open book k = if has_key book.keys k then Some k else None

-- the open node of this name; the name of a closed one is free
unfoldable pub open_node_in : State → Names → Name → Option Key
open_node_in book nodes name = option_and_then (λ spot. key_if_open book (node_key_at spot)) (spot_of nodes name)

-- a name is a node's as long as that is open, and as long as something is still to be told, which may go to it
abbrev pub is_node_in : (untold : Option Mail) → State → Names → Name → Bool
is_node_in untold book nodes name = is_some (open_node_in book nodes name) || (is_some untold && is_some (spot_of nodes name))

abbrev pub node_by_name : Session → Name → Option Key
node_by_name s name = open_node_in s.book s.nodes name

-- the resource of this name, that is held or waits
abbrev pub resource_by_name : Session → Name → Option ResKey
resource_by_name s name = option_map res_key_at (spot_of s.resources name)

-- the lease of this name, that is out
abbrev pub lease_by_name : Session → Name → Option LeaseKey
lease_by_name s name = option_map lease_key_at (spot_of s.leases name)

abbrev pub hub_by_name : Session → Name → Option ℕ
hub_by_name s name = option_map (λ spot. spot.number) (spot_of s.hubs name)

-- a resource of this name was handed in, and is not yet told to be released
abbrev pub has_resource : Session → Name → Bool
has_resource s name = is_some (spot_of s.resources name) || option_map_or (bytes_eq name) s.unnamed false

-- what holds at every moment -------------------------------------------------------------------------

-- the numbers that have names are places of the history
abbrev pub AreNamesPlaced : List Event → Names → Type 0
AreNamesPlaced h names = (n : ℕ) → length h ≤ n → name_of_number names n ≡ None

-- a resource has a name from its acceptance until it is taken, and a lease as long as it is out
pub record IsSound (s : Session) : Type 0 where
  pub kept : IsPromised s.book
  pub node_pairs : IsPaired s.nodes
  pub hub_pairs : IsPaired s.hubs
  pub resource_pairs : IsPaired s.resources
  pub lease_pairs : IsPaired s.leases
  pub nodes : AreNamesPlaced s.book.history s.nodes
  pub hubs : AreNamesPlaced s.book.history s.hubs
  pub resources : (r : ℕ) → is_some (name_of_number s.resources r) ≡ is_kept s.book.history r
  pub leases : (l : ℕ) → is_some (name_of_number s.leases l) ≡ is_out s.book.history l
  -- a name that is still to be told is not given again
  pub unnamed : (name : Name) → s.unnamed ≡ Some name → spot_of s.resources name ≡ None

-- how names are tied to the history, without what the book promises by itself
pub record IsTied (s : Session) : Type 0 where
  pub node_pairs : IsPaired s.nodes
  pub hub_pairs : IsPaired s.hubs
  pub resource_pairs : IsPaired s.resources
  pub lease_pairs : IsPaired s.leases
  pub nodes : AreNamesPlaced s.book.history s.nodes
  pub hubs : AreNamesPlaced s.book.history s.hubs
  pub resources : (r : ℕ) → is_some (name_of_number s.resources r) ≡ is_kept s.book.history r
  pub leases : (l : ℕ) → is_some (name_of_number s.leases l) ≡ is_out s.book.history l
  pub unnamed : (name : Name) → s.unnamed ≡ Some name → spot_of s.resources name ≡ None
