-- Opening a node at any place; what names a hub is opened as a share's.
use Rattle.std.specs.Prelude.{◌≡◌, ℕ, Bool, true, false, List, [], ◌∷◌, ◌++◌, length, Option, Some, None, Result, IfOk, IfErr, OnOk, OnErr, ◌⊎◌}
use Rattle.rx_resource.specs.declared.Resource.{Ghosts}
use Rattle.rx_resource.specs.declared.token.Token.{Token}
use Rattle.rx_event.specs.declared.event.Event.TheVariants.{Open}
use Rattle.rx_event.specs.declared.event.Kind.{Kind}
use Rattle.rx_event.specs.declared.event.Kind.TheVariants.{Sub}
use Rattle.rx_event.specs.declared.refusal.Refusal.{Refusal}
use Rattle.rx_event.specs.declared.refusal.Refusal.TheVariants.{NoMemory}
use Rattle.rx_event.specs.Events.{is_root, is_merging}
use Rattle.rx_slots.specs.declared.Key.{Key}
use Rattle.rx_book.specs.declared.answer.At.{At}
use Rattle.rx_book.specs.State.{State as BookState}
use Rattle.rx_book.specs.Requests.{Request, open_request, place_of}
use Rattle.rx_book.specs.Answers.{Accepts, IsCauseOrWant, IsNewKey}
use Rattle.rx_lanes.specs.declared.names.LaneName.{LaneName}
use Rattle.rx_lanes.specs.State.{State as LanesState, Opens, KeepsLanes}
use Rattle.rx_roles.specs.declared.effect.Effect.{Effect}
use Rattle.rx_roles.specs.declared.roles.Role.{Role}
use Rattle.rx_engine.specs.declared.parts.Parts.{Parts}
use Rattle.rx_engine.specs.declared.parts.User.{User}
use Rattle.rx_engine.specs.declared.homes.LaneOf.{LaneOf}
use Rattle.rx_engine.specs.declared.homes.Home.{Home}
use Rattle.rx_engine.specs.Homes.{whose, is_housed, home_of}
use Rattle.rx_engine.specs.States.{State, IsSeenAs}
use Rattle.rx_engine.specs.Deliveries.{Joins}
use Rattle.rx_engine.specs.Rooms.{role_if}
use Rattle.rx_engine.specs.Settlements.{Settles}
use Rattle.rx_engine.specs.Closings.{with_wish, Closes}

-- no subscriber, which names a hub
abbrev pub connects_none : Kind → Bool
connects_none (Sub g) = false
connects_none _ = true

-- the lane of a new role: one that is open, which one more names then, or a new one
abbrev pub IsLaneFor : Option LaneName → (s t : LanesState Effect) → LaneName → Type 0
IsLaneFor None s t name = Opens s t name
IsLaneFor (Some given) s t name = (name ≡ given) × Joins s t name

-- where there is a new role; else no lane changes
abbrev pub IsLaneIf : Bool → Option LaneName → (s t : LanesState Effect) → LaneName → Type 0
IsLaneIf true at s t name = IsLaneFor at s t name
IsLaneIf false at s t name = KeepsLanes s t

-- a table and the lanes, with one role more, where there is one of this sort
pub record Gives (is : Bool) (number word : ℕ) (at : Option LaneName) (roles roles' : List Role)
    (s t : LanesState Effect) : Type 0 where
  pub name : LaneName
  pub list : roles' ≡ roles ++ role_if is (record { number = number; word = word; lane = name })
  pub lanes : IsLaneIf is at s t name

-- a node of this number has its home, in the lane of this name, and its roles: who hears, of a root, in the same lane;
-- who projects, of a FlatMap or Switch, in a new one
pub record Enters (p : Parts) (number : ℕ) (hears merges : Bool) (word : ℕ) (home : Home) (name : LaneName)
    (q : Parts) : Type 0 where
  pub housed : LanesState Effect
  pub between : LanesState Effect
  pub lane_is : IsLaneFor home.lane p.lanes housed name
  pub homes_is : q.homes.list ≡ p.homes.list ++ (record { number = number; word = home.limit; lane = name }) ∷ []
  pub hears_is : Gives hears number word (Some name) p.hears.list q.hears.list housed between
  pub merges_is : Gives merges number word None p.merges.list q.merges.list between q.lanes
  pub holds : q.holds.list ≡ p.holds.list
  pub shares : q.shares.list ≡ p.shares.list
  pub hubs : q.shares.hubs ≡ p.shares.hubs

-- what is asked of the book: the node whose lane is asked for counts as the place's
abbrev pub opening_request : BookState → At → Kind → Option LaneOf → Request
opening_request b at kind asked = record (open_request b at kind) { is_known = is_housed b (whose at asked) }

-- the book opened the node, it has its roles before anything is told, and all that it came to is done
pub record IsOpenDone (g : Ghosts Token) (at : At) (kind : Kind) (user : User) (by : ℕ) (s t : State) : Type 0 where
  pub mid : BookState
  pub accepts : Accepts s.book (open_request s.book at kind) mid
  pub housed : is_housed s.book (whose at user.lane) ≡ true
  pub name : LaneName
  pub entered : Parts
  pub enters : Enters s.parts (length s.book.history) (is_root (Open (place_of at) kind))
      (is_merging (Open (place_of at) kind)) user.word
      (home_of s at user.lane) name entered
  pub settles : Settles g by 0 mid entered t.book t.parts
  pub closes : Closes mid (with_wish s.wishes.roles.list (length s.book.history) user) t.wishes

-- done, and the key is that of the open node which was made by this event; or refused, for want of memory or as the book refuses, and
-- nothing changed but room
pub record IsOpenMade (g : Ghosts Token) (at : At) (kind : Kind) (user : User) (by : ℕ) (s t : State)
    (answer : Result Key Refusal) : Type 0 where
  pub ok : IfOk answer (IsNewKey t.book (length s.book.history))
  pub done : OnOk answer (IsOpenDone g at kind user by s t)
  pub refused : IfErr answer (λ why. (why ≡ NoMemory) ⊎ IsCauseOrWant s.book (opening_request s.book at kind user.lane)
      why)
  pub kept : OnErr answer (IsSeenAs s t)
