-- Each call of an engine that changes it is a command of a course, by what its contract says: so the laws speak of all
-- calls.
use Rattle.std.specs.Prelude.{◌≡◌, ℕ, true, false, Option, Some, Result}
use Rattle.rx_resource.specs.declared.Resource.{Ghosts}
use Rattle.rx_resource.specs.declared.token.Token.{Token}
use Rattle.rx_event.specs.declared.event.Kind.{Kind}
use Rattle.rx_event.specs.declared.refusal.Refusal.{Refusal}
use Rattle.rx_slots.specs.declared.Key.{Key}
use Rattle.rx_tree.specs.declared.node.ResKey.{ResKey}
use Rattle.rx_book.specs.declared.answer.At.{At}
use Rattle.rx_book.specs.Requests.{Request}
use Rattle.rx_book.specs.Answers.{IsCause, IsCauseOrWant}
use Rattle.rx_pool.specs.declared.search.Share.{Share}
use Rattle.rx_engine.specs.declared.parts.User.{User}
use Rattle.rx_engine.specs.declared.parts.Used.{Used}
use Rattle.rx_engine.specs.declared.homes.LaneOf.{LaneOf}
use Rattle.rx_engine.specs.declared.sharing.Subscribed.{Subscribed}
use Rattle.rx_engine.specs.declared.sharing.Connected.{Connected}
use Rattle.rx_roles.specs.declared.effect.Effect.{Effect}
use Rattle.rx_engine.specs.States.{State, IsPromised}
use Rattle.rx_engine.specs.Commands.{IsMade}
use Rattle.rx_engine.specs.Plain.{IsPlain}
use Rattle.rx_engine.specs.Handings.{IsNextHanded}
use Rattle.rx_engine.specs.Servings.{IsTake}
use Rattle.rx_engine.specs.Openings.{connects_none, IsOpenMade}
use Rattle.rx_engine.specs.Holdings.{IsHoldMade}
use Rattle.rx_engine.specs.Usings.{IsUsingMade}
use Rattle.rx_engine.specs.Puttings.{IsPutMade}
use Rattle.rx_engine.specs.Sharings.{IsSubscribeMade, IsConnectMade, IsDisconnectMade}
use Rattle.rx_engine.specs.Hubs.{AreHubsMade}
use Rattle.rx_engine.specs.Checkpoints.{IsCheckpointMade}
use Rattle.rx_engine.specs.LettingGo.{IsClosingMade}
use Rattle.rx_courses.specs.Courses.{IsCommand}

-- a command, of which nothing is handed out; or one, and what its caller is handed, as by a take
pub data IsMadeAndTaken (g : Ghosts Token) (by : ℕ) (s t : State) : Type 0 where
  hands_none : IsCommand g s t → IsMadeAndTaken g by s t
  hands_one : (between : State) (given : Effect) → IsCommand g s between → IsPromised between → IsTake given.lane false by between t (Some given) →
      IsMadeAndTaken g by s t

-- of calls with this answer: next, end, fail, abort, decline, dispose, apply, remove, lease, give_back, hub and
-- disconnect are plain, and each of the others has its field; what serves lanes has steps of its own in a course
pub record AreCommands (A : Type 0) (g : Ghosts Token) : Type 0 where
  pub plain_free : (asked : Request) (by value : ℕ) (s t : State) (answer : Result A Refusal) → IsPlain s.book asked →
      IsMade g (IsCause s.book asked) asked by value s t answer → IsCommand g s t
  pub plain_costly : (asked : Request) (by value : ℕ) (s t : State) (answer : Result A Refusal) → IsPlain s.book asked →
      IsMade g (IsCauseOrWant s.book asked) asked by value s t answer → IsCommand g s t
  pub opens : (at : At) (kind : Kind) (user : User) (by : ℕ) (s t : State) (answer : Result Key Refusal) →
      connects_none kind ≡ true →
      IsOpenMade g at kind user by s t answer → IsCommand g s t
  pub holds : (node : Key) (tag by : ℕ) (s t : State) (answer : Result ResKey Refusal) →
      IsHoldMade g node tag by s t answer → IsCommand g s t
  pub uses : (at : At) (kind : Kind) (user : User) (tag by : ℕ) (s t : State) (answer : Result Used Refusal) →
      connects_none kind ≡ true →
      IsUsingMade g at kind user tag by s t answer → IsCommand g s t
  pub puts : (to : LaneOf) (user value by : ℕ) (s t : State) (answer : Result A Refusal) →
      IsPutMade to user value by s t answer →
      IsCommand g s t
  pub subscribes : (at : At) (share : Share) (user : User) (by : ℕ) (s t : State) (answer : Result Subscribed Refusal) →
      IsSubscribeMade g at share user by s t answer → IsCommand g s t
  pub connects : (share : Share) (user : User) (by : ℕ) (s t : State) (answer : Result Connected Refusal) →
      IsConnectMade g share user by s t answer →
      IsCommand g s t
  pub disconnects : (word by : ℕ) (s t : State) (answer : Result A Refusal) → IsDisconnectMade g word by s t answer →
      IsCommand g s t
  pub makes_hubs : (by : ℕ) (s t : State) (answer : Result A Refusal) → AreHubsMade g by s t answer → IsCommand g s t
  pub checkpoints : (s t : State) (answer : Result ℕ Refusal) → IsCheckpointMade s t answer → IsCommand g s t
  pub hands_out : (leaf : Key) (by value : ℕ) (s t : State) (answer : Result (Option Effect) Refusal) →
      IsNextHanded g leaf by value s t answer → IsMadeAndTaken g by s t
  pub lets_go : (by : ℕ) (s t : State) (answer : Result A Refusal) → IsClosingMade g by s t answer → IsCommand g s t
