-- The lane that each open node has, which what stands below it has too, and in which its roles and its releases are.
use Rattle.std.specs.Prelude.{ℕ, Bool, true, ◌&&◌, Option, Some, None, option_map, List, if◌then◌else◌}
use Rattle.std.specs.Option.{option_and_then, option_map_or}
use Rattle.rx_event.specs.Events.{is_merging}
use Rattle.rx_event.specs.Tree.{at}
use Rattle.rx_book.specs.declared.answer.At.{At}
use Rattle.rx_book.specs.declared.answer.At.TheVariants.{Root, Source, Inner, Notifier}
use Rattle.rx_book.specs.State.{State as BookState, has_key}
use Rattle.rx_lanes.specs.declared.names.LaneName.{LaneName}
use Rattle.rx_pool.specs.Pool.{pool_size}
use Rattle.rx_roles.specs.declared.roles.Role.{Role}
use Rattle.rx_roles.specs.Roles.{role_of}
use Rattle.rx_engine.specs.declared.parts.Parts.{Parts}
use Rattle.rx_engine.specs.declared.homes.LaneOf.{LaneOf}
use Rattle.rx_engine.specs.declared.homes.LaneOf.TheVariants.{Node, Projections}
use Rattle.rx_engine.specs.declared.homes.Home.{Home}
use Rattle.rx_engine.specs.States.{State}

-- the lane of the role of this number
abbrev pub lane_in : List Role → ℕ → Option LaneName
lane_in roles n = option_map (λ r. r.lane) (role_of roles n)

-- the lane of an open node, or of what an open FlatMap or Switch projects
abbrev pub lane_of : State → LaneOf → Option LaneName
lane_of s (Node k) = if has_key s.book.keys k then lane_in s.parts.homes.list k.number else None
lane_of s (Projections k) = if has_key s.book.keys k then lane_in s.parts.merges.list k.number else None

-- that node is open, and projects where its projections are named
abbrev pub is_there : BookState → LaneOf → Bool
is_there b (Node k) = has_key b.keys k
is_there b (Projections k) = has_key b.keys k && at is_merging b.history k.number

-- whose lane a node has that is opened: below another, that node's; of a root, which the face asks for, or a new one
abbrev pub whose : At → Option LaneOf → Option LaneOf
whose Root asked = asked
whose (Source k) asked = Some (Node k)
whose (Inner k) asked = Some (Node k)
whose (Notifier k) asked = Some (Node k)

-- where that is not a new one, its node is there
abbrev pub is_housed : BookState → Option LaneOf → Bool
is_housed b None = true
is_housed b (Some of) = is_there b of

-- each place in the pool of hubs is below it: no share is kept out of one
abbrev pub no_limit : ℕ
no_limit = pool_size

-- before which place in the pool a share has to stand: as below the node above it
abbrev pub limit_in : List Role → ℕ → ℕ
limit_in homes n = option_map_or (λ r. r.word) (role_of homes n) no_limit

abbrev pub limit_at : Parts → At → ℕ
limit_at p Root = no_limit
limit_at p (Source k) = limit_in p.homes.list k.number
limit_at p (Inner k) = limit_in p.homes.list k.number
limit_at p (Notifier k) = limit_in p.homes.list k.number

-- what a node gets that is opened
abbrev pub home_of : State → At → Option LaneOf → Home
home_of s at asked = record { lane = option_and_then (lane_of s) (whose at asked); limit = limit_at s.parts at }
