-- A base, and the list of events that it reads as.
use Rattle.std.specs.Prelude.{◌==◌, if◌then◌else◌, ◌∷◌, ◌++◌}
use Rattle.rx_event.specs.Imports.{ℕ, Option, Some, None, List, [], map, slice_get, nat_lt, range_with_len, option_map_or}
use Rattle.rx_event.specs.Imports.{Event, Hub, Accept, Lease, Close}
use Rattle.rx_event.specs.declared.base.BaseHub.{BaseHub}
use Rattle.rx_event.specs.declared.base.BaseNode.{BaseNode}
use Rattle.rx_event.specs.declared.base.BaseResource.{BaseResource}
use Rattle.rx_event.specs.declared.base.BaseLease.{BaseLease}
use Rattle.rx_event.specs.declared.base.BaseState.{BaseState}
use Rattle.rx_event.specs.declared.base.BaseState.TheVariants.{Owned, Leased, Waiting}

-- records -----------------------------------------------------------------------------------------

-- each list by rising number
pub record Kept : Type 0 where
  pub at_length : ℕ
  pub items : ℕ
  pub accepted : ℕ
  pub taken : ℕ
  pub hubs : List BaseHub
  pub nodes : List BaseNode
  pub resources : List BaseResource
  pub leases : List BaseLease

-- nothing happened yet
abbrev pub nothing_kept : Kept
nothing_kept =
    record {
      at_length = 0;
      items = 0;
      accepted = 0;
      taken = 0;
      hubs = [];
      nodes = [];
      resources = [];
      leases = [];
    }

-- the first record of this number
abbrev pub find_by : {X : Type 0} → (X → ℕ) → List X → ℕ → Option X
find_by number [] n = None
find_by number (x ∷ xs) n = if number x == n then Some x else find_by number xs n

abbrev pub node_kept : Kept → ℕ → Option BaseNode
node_kept b n = find_by (λ k. k.number) b.nodes n

abbrev pub hub_kept : Kept → ℕ → Option BaseHub
hub_kept b n = find_by (λ k. k.number) b.hubs n

abbrev pub resource_kept : Kept → ℕ → Option BaseResource
resource_kept b n = find_by (λ k. k.number) b.resources n

abbrev pub lease_kept : Kept → ℕ → Option BaseLease
lease_kept b n = find_by (λ k. k.number) b.leases n

-- as a list of events ------------------------------------------------------------------------------

-- a resource that its node does not hold stands at no node, and so names itself
abbrev pub node_shown : ℕ → ℕ → BaseState → ℕ
node_shown n node Owned = node
node_shown n node Leased = n
node_shown n node Waiting = n

abbrev pub resource_shown : ℕ → BaseResource → Event
resource_shown n k = Accept (node_shown n k.node k.state) k.tag

-- a lease that is out reads as itself, where no other record is
abbrev pub lease_shown : Kept → ℕ → Event
lease_shown b n = option_map_or (λ k. Lease k.resource) (lease_kept b n) (Close n)

-- the event that a place of the base reads as
abbrev pub shown_at : Kept → ℕ → Event
shown_at b n = option_map_or (λ k. k.made) (node_kept b n) (option_map_or (λ k. Hub k.mode) (hub_kept b n)
    (option_map_or (resource_shown n) (resource_kept b n) (lease_shown b n)))

unfoldable pub shown : Kept → List Event
shown b = map (shown_at b) (range_with_len 0 b.at_length)

-- the event at a place, if it is one since the base
abbrev pub event_since : Kept → List Event → ℕ → Option Event
event_since b h n = if nat_lt n b.at_length then None else slice_get h n

-- a stored history reads as this list
abbrev pub stored : Kept → List Event → List Event
stored b since = shown b ++ since
