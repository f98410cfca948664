-- Handing in what is to be released: a node holds a tag.
use Rattle.std.specs.Prelude.{◌≡◌, ℕ, [], ◌∷◌, ◌++◌, length, Some, Result, IfOk, IfErr, OnOk, OnErr, ◌⊎◌}
use Rattle.rx_resource.specs.declared.Resource.{Ghosts}
use Rattle.rx_resource.specs.declared.Life.TheVariants.{Live}
use Rattle.rx_resource.specs.declared.token.Token.{Token}
use Rattle.rx_event.specs.declared.refusal.Refusal.{Refusal}
use Rattle.rx_event.specs.declared.refusal.Refusal.TheVariants.{NoMemory}
use Rattle.rx_slots.specs.declared.Key.{Key}
use Rattle.rx_tree.specs.declared.node.ResKey.{ResKey}
use Rattle.rx_book.specs.State.{State as BookState}
use Rattle.rx_book.specs.Requests.{Request, hold_request}
use Rattle.rx_book.specs.Answers.{Accepts, IsCauseOrWant, IsNewResKey}
use Rattle.rx_lanes.specs.declared.names.LaneName.{LaneName}
use Rattle.rx_engine.specs.Deliveries.{Joins}
use Rattle.rx_engine.specs.declared.parts.Parts.{Parts}
use Rattle.rx_engine.specs.States.{State, IsSeenAs}
use Rattle.rx_engine.specs.declared.homes.LaneOf.TheVariants.{Node}
use Rattle.rx_engine.specs.Homes.{lane_of}
use Rattle.rx_engine.specs.Settlements.{Settles}
use Rattle.rx_engine.specs.Closings.{Closes}

-- what the book holds in the place of what the face keeps
abbrev pub held_request : Ghosts Token → BookState → Key → (tag : ℕ) → Request
held_request g s node tag = hold_request g s node (record { tag = tag; life = Live; uses = 0 })

-- the tag has its role, under the place of its event, one more names its lane, and nothing else changed
pub record Keeps (p : Parts) (number tag : ℕ) (name : LaneName) (q : Parts) : Type 0 where
  pub holds_is : q.holds.list ≡ p.holds.list ++ (record { number = number; word = tag; lane = name }) ∷ []
  pub hears : q.hears.list ≡ p.hears.list
  pub merges : q.merges.list ≡ p.merges.list
  pub homes : q.homes.list ≡ p.homes.list
  pub shares : q.shares.list ≡ p.shares.list
  pub hubs : q.shares.hubs ≡ p.shares.hubs
  pub joins : Joins p.lanes q.lanes name

-- the book holds it, and its release is to go into the lane that the node has
pub record IsHoldDone (g : Ghosts Token) (node : Key) (tag by : ℕ) (s t : State) : Type 0 where
  pub mid : BookState
  pub accepts : Accepts s.book (held_request g s.book node tag) mid
  pub name : LaneName
  pub lane_is : lane_of s (Node node) ≡ Some name
  pub entered : Parts
  pub keeps : Keeps s.parts (length s.book.history) tag name entered
  pub settles : Settles g by 0 mid entered t.book t.parts
  pub closes : Closes mid s.wishes.roles.list t.wishes

pub record IsHoldMade (g : Ghosts Token) (node : Key) (tag by : ℕ) (s t : State) (answer : Result ResKey Refusal) : Type
    0 where
  pub ok : IfOk answer (IsNewResKey t.book (length s.book.history))
  pub done : OnOk answer (IsHoldDone g node tag by s t)
  pub refused : IfErr answer (λ why. (why ≡ NoMemory) ⊎ IsCauseOrWant s.book (held_request g s.book node tag) why)
  pub kept : OnErr answer (IsSeenAs s t)
