-- What a command does to the lanes: some are opened, joined or left, then its effects are put there, and what got something is due.
use Rattle.std.proofs.Common.{◌≡◌, ℕ, Bool, true, false, List, [], Option, Some, None, sym, ap, subst}
use Rattle.rx_resource.specs.declared.Resource.{Ghosts}
use Rattle.rx_resource.specs.declared.token.Token.{Token}
use Rattle.rx_book.specs.State.{State as BookState}
use Rattle.rx_lanes.specs.declared.names.LaneName.{LaneName}
use Rattle.rx_lanes.specs.declared.names.Due.{Due}
use Rattle.rx_lanes.specs.Lane.{Lane, kept, parted}
use Rattle.rx_lanes.specs.State.{State as LanesState, lane, Turns, Opens, KeepsLanes}
use Rattle.rx_roles.specs.declared.roles.Role.{Role}
use Rattle.rx_roles.specs.declared.effect.Effect.{Effect}
use Rattle.rx_engine.specs.declared.parts.Parts.{Parts}
use Rattle.rx_engine.specs.declared.homes.Home.{Home}
use Rattle.rx_engine.specs.Deliveries.{Joins, Delivers, Leaves, none_left, one_left, settled}
use Rattle.rx_engine.specs.Settlements.{Settles}
use Rattle.rx_engine.specs.Openings.{IsLaneFor, Gives, Enters}
use Rattle.rx_engine.specs.Sharings.{Names, Connects, ConnectsIf, Subscribes}

-- lanes are opened, joined and left, and nothing is put there
pub data Moves : LanesState Effect → LanesState Effect → Type 0 where
  moves_none : {s : LanesState Effect} → Moves s s
  moves_kept : {s t u : LanesState Effect} → KeepsLanes s t → Moves t u → Moves s u
  moves_joined : {s t u : LanesState Effect} (name : LaneName) → Joins s t name → Moves t u → Moves s u
  moves_opened : {s t u : LanesState Effect} (name : LaneName) → Opens s t name → Moves t u → Moves s u
  moves_left : {s t u : LanesState Effect} (name : LaneName) (l : Lane Effect) → lane s name ≡ Some l → Turns s t name (kept (parted l)) → Moves t u → Moves s u

-- nothing is put there, by however many commands
pub data Rests : LanesState Effect → LanesState Effect → Type 0 where
  rests_none : {s : LanesState Effect} → Rests s s
  rests_kept : {s t u : LanesState Effect} → Rests s t → KeepsLanes t u → Rests s u
  rests_settled : {s t u v w : LanesState Effect} (by : ℕ) → Rests s t → Moves t u → KeepsLanes u v → w ≡ settled by v → Rests s w

-- what a command of this caller put there, and what its answer names
pub data Runs (by : ℕ) (s : LanesState Effect) : List Effect → List Due → LanesState Effect → Type 0 where
  runs_resting : {t : LanesState Effect} → Rests s t → Runs by s [] [] t
  runs_settled : {t u v : LanesState Effect} {es : List Effect} → Moves s t → Delivers by t es u → v ≡ settled by u → Runs by s es v.due v

pub moves_then : {s t u : LanesState Effect} → Moves s t → Moves t u → Moves s u
moves_then moves_none rest = rest
moves_then (moves_kept k more) rest = moves_kept k (moves_then more rest)
moves_then (moves_joined name j more) rest = moves_joined name j (moves_then more rest)
moves_then (moves_opened name o more) rest = moves_opened name o (moves_then more rest)
moves_then (moves_left name l found turns more) rest = moves_left name l found turns (moves_then more rest)

-- what a node gets -----------------------------------------------------------------------------------

pub joins_moves : {s t : LanesState Effect} {name : LaneName} → Joins s t name → Moves s t
joins_moves {name = name} j = moves_joined name j moves_none

lane_moves : (at : Option LaneName) (s t : LanesState Effect) (name : LaneName) → IsLaneFor at s t name → Moves s t
lane_moves None s t name opens = moves_opened name opens moves_none
lane_moves (Some given) s t name joins = moves_joined name joins.1 moves_none

gives_moves : (is : Bool) (number word : ℕ) (at : Option LaneName) (roles roles' : List Role) (s t : LanesState Effect) →
    Gives is number word at roles roles' s t → Moves s t
gives_moves true number word at roles roles' s t g = lane_moves at s t g.name g.lanes
gives_moves false number word at roles roles' s t g = moves_kept g.lanes moves_none

pub enters_moves : (p q : Parts) (number : ℕ) (hears merges : Bool) (word : ℕ) (home : Home) (name : LaneName) →
    Enters p number hears merges word home name q → Moves p.lanes q.lanes
enters_moves p q number hears merges word home name e =
    moves_then (lane_moves home.lane p.lanes e.housed name e.lane_is)
    (moves_then (gives_moves hears number word (Some name) p.hears.list q.hears.list e.housed e.between e.hears_is)
    (gives_moves merges number word None p.merges.list q.merges.list e.between q.lanes e.merges_is))

-- which lanes there are does not turn on which hub a node names
names_moves : (p q : Parts) (number place word : ℕ) → Names p number place word q → Moves p.lanes q.lanes
names_moves p q number place word n = subst (λ (x : LanesState Effect). Moves p.lanes x) (sym (ap (λ (x : Parts). x.lanes) n.only)) moves_none

pub connects_moves : (p q : Parts) (number place word : ℕ) → Connects p number place word q → Moves p.lanes q.lanes
connects_moves p q number place word c =
    moves_then (enters_moves p c.housed number false false 0 _ c.name c.houses) (names_moves c.housed q number place word c.names)

second_moves : (second : Option ℕ) (p q : Parts) (place word : ℕ) → ConnectsIf p second place word q → Moves p.lanes q.lanes
second_moves None p q place word same = subst (λ (x : LanesState Effect). Moves p.lanes x) (sym (ap (λ (x : Parts). x.lanes) same)) moves_none
second_moves (Some number) p q place word c = connects_moves p q number place word c

pub subscribes_moves : (p q : Parts) (number : ℕ) (hears : Bool) (user : ℕ) (home : Home) (place word : ℕ) (second : Option ℕ) →
    Subscribes p number hears user home place word second q → Moves p.lanes q.lanes
subscribes_moves p q number hears user home place word second c =
    moves_then (enters_moves p c.entered number hears false user home c.name c.enters)
    (moves_then (names_moves c.entered c.named number place word c.names) (second_moves second c.named q place word c.connects))

pub leaves_moves : (s t : LanesState Effect) (rs : List Role) → Leaves s rs t → Moves s t
leaves_moves s t rs (none_left k) = moves_kept k moves_none
leaves_moves s t rs (one_left {t = m} {rs = more} role l found turns rest) = moves_left role.lane l found turns (leaves_moves m t more rest)

-- what is settled ------------------------------------------------------------------------------------

pub settles_runs : {s : LanesState Effect} (g : Ghosts Token) (by value : ℕ) (mid : BookState) (p : Parts) (t : BookState) (q : Parts) → Moves s p.lanes →
    (d : Settles g by value mid p t q) → Runs by s d.effects q.lanes.due q.lanes
settles_runs g by value mid p t q before d = runs_settled (moves_then before (leaves_moves p.lanes d.left _ d.leaves)) d.delivers d.lanes
