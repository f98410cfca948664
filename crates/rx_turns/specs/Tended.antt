-- No lane is lost: what waits in one is due to a turn or astray, and who serves one has something of it in hand.
use Rattle.std.specs.Prelude.{◌≡◌, ◌⊎◌, ℕ, ◌≤◌, Bool, true, false, [], Option, Some, None}
use Rattle.rx_resource.specs.declared.Resource.{Ghosts}
use Rattle.rx_resource.specs.declared.token.Token.{Token}
use Rattle.rx_slots.specs.Lists.{is_in}
use Rattle.rx_lanes.specs.declared.names.LaneName.{LaneName}
use Rattle.rx_lanes.specs.Lane.{Lane, has_any, is_served}
use Rattle.rx_lanes.specs.State.{IsLeft, lane}
use Rattle.rx_roles.specs.declared.effect.Effect.{Effect as Sent}
use Rattle.rx_roles.specs.declared.effect.What.{What}
use Rattle.rx_engine.specs.States.{IsPromised}
use Rattle.rx_courses.specs.LeftNamed.{IsServedBy}
use Rattle.rx_cellar.specs.declared.shapes.Command.{Command}
use Rattle.rx_cellar.specs.declared.shapes.Answer.{Answer}
use Rattle.rx_cellar.specs.Beginnings.{IsFresh}
use Rattle.rx_cellar.specs.Crossings.{what_of}
use Rattle.rx_cellar.specs.Words.{place_in, word_of}
use Rattle.rx_turns.specs.declared.agenda.Turn.{Turn}
use Rattle.rx_turns.specs.declared.agenda.Task.{Task}
use Rattle.rx_turns.specs.Agendas.{DueLists, due_to, in_hand, lane_word, HasNothing, IsServing}
use Rattle.rx_turns.specs.States.{TurnState}
use Rattle.rx_turns.specs.Calls.{TurnStep, IsTurnStep, IsTurnPass, IsTurnStop}

-- its place is due to a turn, under its own word
pub record StandsDue (a : DueLists) (name : LaneName) : Type 0 where
  pub turn : Turn
  pub due : is_in name.place (due_to a turn) ≡ true
  pub word : lane_word a name.place ≡ word_of name

-- the walk over what is astray is still to come to its place
pub record IsAstray (astray : Option ℕ) (name : LaneName) : Type 0 where
  pub from : ℕ
  pub walks : astray ≡ Some from
  pub ahead : from ≤ name.place

-- a lane that has something and that nobody serves is due, or astray; one that a stack serves is in hand of a turn of that stack; no lane got
-- something that no answer named; what is due stands at the place of its word; and what is in hand is of a kind that may come back
pub record NoLaneIsLost (s : TurnState) : Type 0 where
  pub left : (name : LaneName) → IsLeft s.cellar.engine.parts.lanes name → StandsDue s.agenda name ⊎ IsAstray s.astray name
  pub served : (name : LaneName) (by : ℕ) → IsServedBy s.cellar.engine.parts.lanes name by → IsServing s.agenda by (word_of name)
  pub settled : s.cellar.engine.parts.lanes.fresh ≡ []
  pub placed : (turn : Turn) (place : ℕ) → is_in place (due_to s.agenda turn) ≡ true → place_in (lane_word s.agenda place) ≡ place
  pub kinds : (turn : Turn) (h : Task) → in_hand s.agenda turn ≡ Some h → (what : What) × (what_of h.effect.kind ≡ Some what)

-- no turn has anything to do, and nothing is astray
pub record NothingToDo (s : TurnState) : Type 0 where
  pub turns : (turn : Turn) → HasNothing s.agenda turn
  pub astray : s.astray ≡ None

-- From a new engine on, whatever calls a face makes: no lane is lost; so where there is nothing to do, nothing waits in any lane, and nobody serves one
pub record LosesNoLane (g : Ghosts Token) : Type 0 where
  pub begins : (limit : ℕ) (s : TurnState) → IsFresh limit s.cellar.engine → IsPromised s.cellar.engine → ((turn : Turn) → HasNothing s.agenda turn) → NoLaneIsLost s
  pub steps : (turn : Turn) (begun : ℕ) (c : Option Command) (s t : TurnState) (a b : Answer) (step : TurnStep) → NoLaneIsLost s →
      IsTurnStep g turn begun c s t a b step → NoLaneIsLost t
  pub passes : (turn : Turn) (begun from : ℕ) (now_is : Bool) (s t : TurnState) → NoLaneIsLost s → IsTurnPass turn begun from now_is s t → NoLaneIsLost t
  pub stops : (turn : Turn) (begun : ℕ) (s t : TurnState) → NoLaneIsLost s → IsTurnStop turn begun s t → NoLaneIsLost t
  pub ends : (s : TurnState) → NoLaneIsLost s → NothingToDo s → (name : LaneName) (l : Lane Sent) → lane s.cellar.engine.parts.lanes name ≡ Some l →
      (has_any l ≡ false) × (is_served l ≡ false)
