-- Which hub of the pool each open subscriber and each open connection names, by its place there.
use Rattle.std.specs.Prelude.{◌≡◌, ℕ, ◌++◌, ◌∷◌, ◌&&◌, Bool, Option, Some, is_some, option_map, List, []}
use Rattle.std.specs.List.{cons_option}
use Rattle.rx_event.specs.declared.event.Event.{Event}
use Rattle.rx_event.specs.declared.event.Event.TheVariants.{Connect}
use Rattle.rx_event.specs.Events.{hub_subscribed}
use Rattle.rx_event.specs.Tree.{at, is_open}
use Rattle.rx_lanes.specs.declared.names.LaneName.{LaneName}
use Rattle.rx_roles.specs.declared.roles.Role.{Role}
use Rattle.rx_roles.specs.Roles.{role_of, without, AreRolesOf}
use Rattle.rx_pool.specs.declared.search.PooledHub.{PooledHub}
use Rattle.rx_pool.specs.Pool.{changed, joined}
use Rattle.rx_pool.specs.Counts.{IsPoolOf}
use Rattle.rx_pool.specs.Moves.{AreKnown}

-- a role for each node that names a hub, and the hubs; and for how many more of each there is room
pub record State : Type 0 where
  pub list : List Role
  pub room : ℕ
  pub hubs : List PooledHub
  pub hub_room : ℕ

-- the place of the hub that the node of this number names, if it names one
abbrev pub place_in : List Role → ℕ → Option ℕ
place_in list n = option_map (λ r. r.word) (role_of list n)

-- the places of these numbers, each one once
abbrev pub places_left : List Role → List ℕ → List ℕ
places_left list [] = []
places_left list (n ∷ ns) = cons_option (place_in list n) (places_left (without list n) ns)

-- no effect goes to it
abbrev pub nowhere : LaneName
nowhere = record { place = 0; turn = 0 }

-- the node of this number names the hub at this place
abbrev pub place_role : (number place : ℕ) → Role
place_role number place = record { number = number; word = place; lane = nowhere }

-- one node more names the hub at this place, for the share of this word; nothing else changes
pub record Joins (s : State) (number place word : ℕ) (t : State) : Type 0 where
  pub list : t.list ≡ s.list ++ place_role number place ∷ []
  pub hubs : t.hubs ≡ changed (joined word) place s.hubs

-- the hub that the event's node names: a subscriber's, or that of a connection
abbrev pub hub_named : Event → Option ℕ
hub_named (Connect g) = Some g
hub_named e = hub_subscribed e

abbrev pub names_hub : Event → Bool
names_hub e = is_some (hub_named e)

-- just the open nodes that name a hub have a place, the hubs count them, and the place is that of the hub
pub record AreShared (h : List Event) (list : List Role) (hubs : List PooledHub) : Type 0 where
  pub places : AreRolesOf (λ n. is_open h n && at names_hub h n) list
  pub pool : IsPoolOf h hubs
  pub known : AreKnown h h hubs (place_in list)
