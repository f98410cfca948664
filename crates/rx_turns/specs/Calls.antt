-- The calls of a face: a step, a pass, a stop.
use Rattle.std.specs.Prelude.{◌≡◌, ◌≢◌, ℕ, ◌-◌, ◌^◌, Bool, false, Option, Some, None, if◌then◌else◌}
use Rattle.rx_resource.specs.declared.Resource.{Ghosts}
use Rattle.rx_resource.specs.declared.token.Token.{Token}
use Rattle.rx_cellar.specs.declared.shapes.Command.{Command}
use Rattle.rx_cellar.specs.declared.shapes.Answer.{Answer}
use Rattle.rx_cellar.specs.Crossings.{no_answer}
use Rattle.rx_cellar.specs.Serving.{IsLeftTold}
use Rattle.rx_cellar.specs.Words.{place_in}
use Rattle.rx_turns.specs.declared.agenda.Turn.{Turn}
use Rattle.rx_turns.specs.declared.agenda.Task.{Task}
use Rattle.rx_turns.specs.Agendas.{LosesNothing, Claims, LaneHasRoom, NotesBegun}
use Rattle.rx_turns.specs.States.{TurnState}
use Rattle.rx_turns.specs.Serving.{TakesDue, Serves, ServesDeeper}
use Rattle.rx_turns.specs.Making.{MakesIn}
use Rattle.rx_turns.specs.Telling.{handed_told}
use Rattle.rx_turns.specs.Ending.{LetsLaneGo, EndsTurn, StopsDeeper, LeavesTo, at_depth}

-- what a step came to: of its command, and what is to be done now, where there is something
pub record TurnStep : Type 0 where
  pub status : ℕ
  pub handed : Option Task
  pub is_own : Bool

-- of a step without a command
abbrev pub bare_step : Option Task → TurnStep
bare_step handed = record { status = 0; handed = handed; is_own = false }

-- what was begun last is marked
pub record HasNoted (by ticket : ℕ) (s t : TurnState) : Type 0 where
  pub marks : NotesBegun by ticket s.agenda t.agenda
  pub only : t ≡ record s { agenda = t.agenda }

-- the first lane from the place kept on that has something, which nobody serves, is due to the turn, which is served then; where there is none
-- nothing is astray any more; where there is no room for it, it stays astray
pub data PicksUp (turn : Turn) (t : TurnState) : TurnState → Option Task → Type 0 where
  none_astray : t.astray ≡ None → PicksUp turn t t None
  ends_walk : (s : TurnState) (from next : ℕ) → s.astray ≡ Some from → IsLeftTold from s.cellar (2 ^ 64 - 1) next → t ≡ record s { astray = None } →
      PicksUp turn t s None
  finds_no_room : (s : TurnState) (from word next : ℕ) → s.astray ≡ Some from → IsLeftTold from s.cellar word next → word ≢ 2 ^ 64 - 1 →
      (LaneHasRoom s.agenda turn (place_in word) → ⊥) →
      LosesNothing s.agenda t.agenda → t ≡ record s { agenda = t.agenda } → PicksUp turn t s None
  finds_one : (s u : TurnState) (from word next : ℕ) (answer : Option Task) → s.astray ≡ Some from → IsLeftTold from s.cellar word next → word ≢ 2 ^ 64 - 1 →
      Claims turn (place_in word) word s.agenda u.agenda → u ≡ record s { agenda = u.agenda; astray = Some next } → TakesDue turn t u answer →
      PicksUp turn t s answer

-- the calls deeper on its stack are served, and then, at depth 1, what is astray
pub data GoesDeeper (turn : Turn) (t : TurnState) : TurnState → Option Task → Type 0 where
  serves_inner : (s : TurnState) (h : Task) → ServesDeeper turn t s (Some h) → GoesDeeper turn t s (Some h)
  has_no_more : (s : TurnState) → ServesDeeper turn t s None → turn.depth ≢ 1 → GoesDeeper turn t s None
  looks_around : (s v : TurnState) (answer : Option Task) → ServesDeeper turn v s None → turn.depth ≡ 1 → PicksUp turn t v answer →
      GoesDeeper turn t s answer

-- the turn is served first
pub data TurnGoesOn (turn : Turn) (t : TurnState) : TurnState → Option Task → Type 0 where
  serves_own : (s : TurnState) (h : Task) → Serves turn t s (Some h) → TurnGoesOn turn t s (Some h)
  serves_no_more : (s u : TurnState) (answer : Option Task) → Serves turn u s None → GoesDeeper turn t u answer → TurnGoesOn turn t s answer

-- a command is made, if there is one
abbrev pub MakesAny : Ghosts Token → Turn → Option Command → TurnState → TurnState → Answer → Answer → (status : ℕ) → (is_own : Bool) → Type 0
MakesAny g turn None s t a b status is_own = (t ≡ s) × (b ≡ no_answer a) × (status ≡ 0) × (is_own ≡ false)
MakesAny g turn (Some c) s t a b status is_own = MakesIn g turn c s t a b status is_own

-- what was begun is marked, the command is made, and the turn goes on
pub record IsTurnStep (g : Ghosts Token) (turn : Turn) (begun : ℕ) (c : Option Command) (s t : TurnState) (a b : Answer) (step : TurnStep) : Type 0 where
  pub marked : TurnState
  pub made : TurnState
  pub marks : HasNoted turn.by begun s marked
  pub makes : MakesAny g turn c marked made a b step.status step.is_own
  pub goes_on : TurnGoesOn turn t made step.handed

-- and what it tells: of a command that was refused, and where there is none, `no_answer`, and then what is to be done now
pub record IsTurnTold (g : Ghosts Token) (turn : Turn) (begun : ℕ) (c : Option Command) (s t : TurnState) (a b : Answer) (status : ℕ) : Type 0 where
  pub made : Answer
  pub step : TurnStep
  pub steps : IsTurnStep g turn begun c s t a made step
  pub told : b ≡ handed_told step.handed step.is_own made
  pub status_is : status ≡ step.status

-- the call of this depth further out lets its lane go; what is left there is this turn's, or stays with that call
pub record IsTurnPass (turn : Turn) (begun from : ℕ) (now_is : Bool) (s t : TurnState) : Type 0 where
  pub marked : TurnState
  pub free : TurnState
  pub left : Option ℕ
  pub marks : HasNoted turn.by begun s marked
  pub lets_go : LetsLaneGo (at_depth turn from) marked free left
  pub leaves : LeavesTo left (if now_is then turn else at_depth turn from) free t

-- the turn ends, and each deeper call
pub record IsTurnStop (turn : Turn) (begun : ℕ) (s t : TurnState) : Type 0 where
  pub marked : TurnState
  pub ended : TurnState
  pub marks : HasNoted turn.by begun s marked
  pub ends : EndsTurn turn marked ended
  pub deeper : StopsDeeper turn t ended
