-- What holds of lanes and roots over the calls on one handle, of stacks that have nothing more, and of steps that are refused.
use Rattle.std.specs.Prelude.{◌≡◌, ◌≢◌, ◌⊎◌, ℕ, true, false, List, ◌++◌, Option, Some, None}
use Rattle.rx_resource.specs.declared.Resource.{Ghosts}
use Rattle.rx_resource.specs.declared.token.Token.{Token}
use Rattle.rx_lanes.specs.declared.names.LaneName.{LaneName}
use Rattle.rx_lanes.specs.Lane.{Lane, has_any, is_left, is_served}
use Rattle.rx_lanes.specs.State.{lane}
use Rattle.rx_roles.specs.declared.effect.Effect.{Effect as Sent}
use Rattle.rx_engine.specs.States.{State, IsPromised}
use Rattle.rx_courses.specs.Courses.{all_effects}
use Rattle.rx_courses.specs.Refused.{FollowsAlike}
use Rattle.rx_courses.specs.RootsTold.{AllOpenOnly, TellsARoot}
use Rattle.rx_courses.specs.Serving.{ends_serving, ServesAlone, named_there}
use Rattle.rx_courses.specs.Tellings.{IsHonest, told_there, line_at, those_there, but_releases}
use Rattle.rx_cellar.specs.declared.shapes.Command.{Command}
use Rattle.rx_turns.specs.declared.agenda.Turn.{Turn}
use Rattle.rx_turns.specs.declared.agenda.Task.{Task}
use Rattle.rx_turns.specs.declared.turns.Turns.{Turns}
use Rattle.rx_turns.specs.Rows.{is_deeper}
use Rattle.rx_turns.specs.Agendas.{HasNothing, LosesNothing}
use Rattle.rx_turns.specs.States.{TurnState, turn_state}
use Rattle.rx_turns.specs.Calls.{HasNoted, TurnGoesOn}
use Rattle.rx_turns.specs.Courses.{Seen, IsEngineCourse}
use Rattle.rx_turns.specs.Promises.{LackedRoom}
use Rattle.rx_turns.specs.Tended.{NoLaneIsLost, NothingToDo}
use Rattle.cellarcliff.specs.declared.stepping.Stack.{Stack}
use Rattle.rx_cellar.specs.declared.shapes.Answer.{Answer}
use Rattle.cellarcliff.specs.Calls.{IsMade}
use Rattle.cellarcliff.specs.Refusals.{KeepsAllElse, is_room_only}
use Rattle.rx_turns.specs.Telling.{handed_told, no_step}
use Rattle.cellarcliff.specs.Steps.{turn_of, IsStepTold}
use Rattle.cellarcliff.specs.Courses.{Shown, OnTurns, CellarCourse, IsShownCourse, OfAllCalls}

-- where what comes back is what was told last of its lane: of each lane all but releases, which may come before their turn, was told, or waits
-- there, in the order in which the commands put it there; and a lane that has something, and that nobody serves, was named by an answer since
-- somebody was last given something of it
pub record TellsLanesInOrder (g : Ghosts Token) (s t : State) (shown : List Shown) : Type 0 where
  pub is_shown : IsShownCourse g s t shown
  pub in_order : IsHonest is_shown.is_course.course → (name : LaneName) →
      but_releases (told_there name is_shown.is_course.course ++ line_at name t.parts.lanes) ≡
      but_releases (those_there name (all_effects is_shown.is_course.course))
  pub left_named : IsHonest is_shown.is_course.course → (name : LaneName) (l : Lane Sent) → lane t.parts.lanes name ≡ Some l → is_left l ≡ true →
      named_there name is_shown.is_course.course ≡ true

abbrev pub AreEffectsToldInOrder : Ghosts Token → Type 0
AreEffectsToldInOrder g = OfAllCalls g (λ s t shown. TellsLanesInOrder g s t shown)

-- and of a root that alone has its word in its lane: what was told there under this word, and then what waits, are its notes, in order, items
-- and at most one end, and nothing behind it
pub record TellsRoots (g : Ghosts Token) (s t : State) (shown : List Shown) : Type 0 where
  pub is_shown : IsShownCourse g s t shown
  pub roots : (n word : ℕ) (name : LaneName) → IsHonest is_shown.is_course.course → AllOpenOnly n word name is_shown.is_course.course →
      TellsARoot n word name is_shown.is_course.course

abbrev pub AreRootsTold : Ghosts Token → Type 0
AreRootsTold g = OfAllCalls g (λ s t shown. TellsRoots g s t shown)

-- who serves a lane serves it alone until he ends that
pub record ServesOneByOne (g : Ghosts Token) (s t : State) : Type 0 where
  pub seen : List Seen
  pub is_course : IsEngineCourse g s t seen
  pub alone : (by : ℕ) (name : LaneName) (l : Lane Sent) → lane s.parts.lanes name ≡ Some l → l.server ≡ Some by →
      ends_serving by name is_course.course ≡ false → ServesAlone by name t

-- of any calls on one handle, from whenever on
abbrev pub AreLanesServedOneByOne : Ghosts Token → Type 0
AreLanesServedOneByOne g = (s t : Turns) (shown : List Shown) → IsPromised s.cellar.engine → CellarCourse g s shown t →
    ServesOneByOne g s.cellar.engine t.cellar.engine

-- nothing is stuck ---------------------------------------------------------------------------------------

-- the turn has nothing any more, nor has a call deeper on its stack; and at depth 1 nothing is astray, but for want of room
pub record HasAllDone (turn : Turn) (t : TurnState) : Type 0 where
  pub own : HasNothing t.agenda turn
  pub deeper : (u : Turn) → is_deeper turn u ≡ true → HasNothing t.agenda u
  pub astray : turn.depth ≡ 1 → (t.astray ≡ None) ⊎ LackedRoom turn t

-- of any step that hands out nothing
abbrev pub StepsLeaveNothing : Ghosts Token → Type 0
StepsLeaveNothing g = (stack : Stack) (c : Option Command) (step step' : Answer) (s t : Turns) (status : ℕ) →
    OnTurns (λ s t n. IsStepTold g stack c s t step step' n) (step' ≡ no_step step) s t status → step'.handed ≡ 0 → HasAllDone (turn_of stack) (turn_state t)

-- no lane is lost: what waits in one that nobody serves is due to a turn or astray, and who serves one has something of it in hand; so where no turn
-- has anything to do, and nothing is astray, nothing waits in any lane, and nobody serves one
pub record TendsEachLane (s : TurnState) : Type 0 where
  pub tended : NoLaneIsLost s
  pub over : NothingToDo s → (name : LaneName) (l : Lane Sent) → lane s.cellar.engine.parts.lanes name ≡ Some l → (has_any l ≡ false) × (is_served l ≡ false)

-- behind any calls on one handle, from `cellar_new` on
abbrev pub CallsTendEachLane : Ghosts Token → Type 0
CallsTendEachLane g = (max_events made : ℕ) (first last : Turns) (shown : List Shown) → IsMade max_events None (Some first) made →
    CellarCourse g first shown last → TendsEachLane (turn_state last)

-- refused steps ------------------------------------------------------------------------------------------

-- whatever may follow one of these may follow the other
abbrev pub FollowEachOther : Ghosts Token → State → State → Type 0
FollowEachOther g s t = FollowsAlike g s t × FollowsAlike g t s

-- nothing is told of the command, and nothing changed by it but room, a checkpoint and hubs, when the turn goes on: of the engine, nor of what is due
-- and in hand once what was begun is noted, nor the ticket that was given last, nor what is astray. Where neither a checkpoint nor hubs were made,
-- whatever may follow the engine as it was may follow it as it is, and the other way round
pub record IsRefusedStep (g : Ghosts Token) (stack : Stack) (s t : TurnState) (step step' : Answer) : Type 0 where
  pub marked : TurnState
  pub marks : HasNoted stack.by stack.begun s marked
  pub between : TurnState
  pub engine : KeepsAllElse g s.cellar.engine between.cellar.engine
  pub follows : is_room_only engine ≡ true → FollowEachOther g s.cellar.engine between.cellar.engine
  pub released : between.cellar.released ≡ s.cellar.released
  pub agenda : LosesNothing marked.agenda between.agenda
  pub tickets : between.tickets ≡ s.tickets
  pub astray : between.astray ≡ s.astray
  pub handed : Option Task
  pub goes_on : TurnGoesOn (turn_of stack) t between handed
  pub told : step' ≡ handed_told handed false (no_step step)

-- of any step whose status is not 0
abbrev pub RefusedCallsChangeNothing : Ghosts Token → Type 0
RefusedCallsChangeNothing g = (stack : Stack) (command : Command) (step step' : Answer) (s t : Turns) (status : ℕ) →
    OnTurns (λ s t n. IsStepTold g stack (Some command) s t step step' n) (step' ≡ no_step step) s t status → status ≢ 0 →
    IsRefusedStep g stack (turn_state s) (turn_state t) step step'
