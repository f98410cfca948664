-- What is counted beside the book, and for what there is room.
use Rattle.std.specs.Prelude.{◌≡◌, ℕ, ◌+◌, ◌≤◌, ◌<◌, ◌^◌, Bool, List, [], ◌∷◌, length, slice_get, Option, Some, IsSome, if◌then◌else◌}
use Rattle.rx_lanes.specs.declared.names.LaneName.{LaneName}
use Rattle.rx_lanes.specs.State.{lane, KeepsLanes}
use Rattle.rx_pool.specs.declared.search.PooledHub.{PooledHub}
use Rattle.rx_pool.specs.Ties.{MayJoin}
use Rattle.rx_roles.specs.declared.roles.Role.{Role}
use Rattle.rx_roles.specs.Effects.{names_of}
use Rattle.rx_roles.specs.Roles.{AreBelow}
use Rattle.rx_engine.specs.declared.homes.Home.{Home}
use Rattle.rx_engine.specs.declared.parts.Parts.{Parts}
use Rattle.rx_engine.specs.Deliveries.{many_at}

-- a role, where there is one
abbrev pub role_if : Bool → Role → List Role
role_if is r = if is then r ∷ [] else []

-- how many roles there are: so many last effects may still come
abbrev pub role_count : Parts → ℕ
role_count p = length p.hears.list + length p.merges.list + length p.holds.list

-- and with them each open node, in whose lane others are
abbrev pub name_count : Parts → ℕ
name_count p = role_count p + length p.homes.list

-- how many of these name a lane
abbrev pub named : LaneName → Parts → ℕ
named name p = names_of name p.hears.list + names_of name p.merges.list + names_of name p.holds.list + names_of name
    p.homes.list

-- no effect is on its way, as many roles name a lane as it says, and there is room for so many effects and the last
-- of each role
pub record IsReady (items : ℕ) (p : Parts) : Type 0 where
  pub empty : p.effects.list ≡ []
  pub many : (name : LaneName) → many_at p.lanes name ≡ named name p
  pub room : items + role_count p ≤ p.effects.room
  pub spare : items + role_count p ≤ p.lanes.spare

-- there is room for so many effects more than the last of each role; and then no more name a lane than it can count
pub record HasRoomFor (more : ℕ) (p : Parts) : Type 0 where
  pub room : role_count p + more ≤ p.effects.room
  pub spare : role_count p + more ≤ p.lanes.spare
  pub few : name_count p + more < 2 ^ 63

-- there is room for the home and the roles of one node more, and for their lanes
pub record HasRoomToEnter (p : Parts) : Type 0 where
  pub homes : 0 < p.homes.room
  pub hears : 0 < p.hears.room
  pub merges : 0 < p.merges.room
  pub lanes : 3 ≤ p.lanes.room

-- and for another beside it, and for both to name a hub
pub record HasRoomToShare (p : Parts) : Type 0 where
  pub node : HasRoomToEnter p
  pub homes : 2 ≤ p.homes.room
  pub shares : 2 ≤ p.shares.room
  pub lanes : 4 ≤ p.lanes.room

-- a connection of this number may come in, which names the hub at this place
pub record MayConnect (p : Parts) (number place word : ℕ) : Type 0 where
  pub homes_room : 0 < p.homes.room
  pub lanes_room : 0 < p.lanes.room
  pub shares_room : 0 < p.shares.room
  pub homes : AreBelow p.homes.list number
  pub shares : AreBelow p.shares.list number
  pub may : MayJoin p.shares.hubs place word

-- a subscriber of this number may come in, and such a connection, if there is one
pub record MayShare (p : Parts) (number : ℕ) (second : Option ℕ) (home : Home) (place word : ℕ) : Type 0 where
  pub room : HasRoomToShare p
  pub homes : AreBelow p.homes.list number
  pub hears : AreBelow p.hears.list number
  pub merges : AreBelow p.merges.list number
  pub shares : AreBelow p.shares.list number
  pub later : (k : ℕ) → second ≡ Some k → number < k
  pub there : (name : LaneName) → home.lane ≡ Some name → IsSome (lane p.lanes name)
  pub many : (name : LaneName) → many_at p.lanes name ≡ named name p
  pub few : name_count p + 2 < 2 ^ 63
  pub may : MayJoin p.shares.hubs place word
  pub few_many : (hub : PooledHub) → slice_get p.shares.hubs place ≡ Some hub → hub.many + 2 < 2 ^ 32

-- the same for whoever looks at it: only room may have been gotten
pub record IsRoomier (p q : Parts) : Type 0 where
  pub homes : q.homes.list ≡ p.homes.list
  pub hears : q.hears.list ≡ p.hears.list
  pub merges : q.merges.list ≡ p.merges.list
  pub holds : q.holds.list ≡ p.holds.list
  pub effects : q.effects.list ≡ p.effects.list
  pub shares : q.shares.list ≡ p.shares.list
  pub hubs : q.shares.hubs ≡ p.shares.hubs
  pub lanes : KeepsLanes p.lanes q.lanes
  pub copies : q.copies ≡ p.copies
  pub room : p.effects.room ≤ q.effects.room
  pub spare : p.lanes.spare ≤ q.lanes.spare
