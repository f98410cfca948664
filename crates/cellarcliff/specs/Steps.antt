-- A step, a pass and a stop of a face, on the turns that a handle keeps.
use Rattle.std.specs.Prelude.{◌≡◌, ℕ, Bool, List, Option, Some, None}
use Rattle.rx_resource.specs.declared.Resource.{Ghosts}
use Rattle.rx_resource.specs.declared.token.Token.{Token}
use Rattle.rx_engine.specs.States.{IsPromised}
use Rattle.rx_cellar.specs.declared.shapes.Command.{Command}
use Rattle.rx_cellar.specs.declared.shapes.Answer.{Answer}
use Rattle.rx_cellar.specs.declared.cellar.Cellar.{Cellar}
use Rattle.rx_cellar.specs.Serving.{IsRestOf}
use Rattle.rx_turns.specs.declared.agenda.Turn.{Turn}
use Rattle.rx_turns.specs.declared.turns.Turns.{Turns}
use Rattle.rx_turns.specs.States.{TurnState, turn_state}
use Rattle.rx_turns.specs.Calls.{IsTurnTold, IsTurnPass, IsTurnStop}
use Rattle.cellarcliff.specs.declared.stepping.Stack.{Stack}

-- the turn of a stack's call
abbrev pub turn_of : Stack → Turn
turn_of s = record { by = s.by; depth = s.depth }

-- a call on the turns that the handle keeps, whose engine's promise stands behind it too; where the handle keeps none nothing was done
pub data IsTurned (Says : TurnState → TurnState → ℕ → Type 0) (IsBlank : Type 0) (old new : Option Turns) (status : ℕ) : Type 0 where
  turns : {s t : Turns} → old ≡ Some s → new ≡ Some t → IsPromised t.cellar.engine → Says (turn_state s) (turn_state t) status →
      IsTurned Says IsBlank old new status
  turns_none : old ≡ None → new ≡ None → IsBlank → status ≡ 1 → IsTurned Says IsBlank old new status

-- a step, and what it tells. Of a command that was refused, and where there is none, all that it tells of it is `no_step`
abbrev pub IsStepTold : Ghosts Token → Stack → Option Command → TurnState → TurnState → Answer → Answer → (status : ℕ) → Type 0
IsStepTold g stack c s t a b status = IsTurnTold g (turn_of stack) stack.begun c s t a b status

-- a pass and a stop
abbrev pub IsPassTold : Stack → (from : ℕ) → (now_is : Bool) → TurnState → TurnState → (status : ℕ) → Type 0
IsPassTold stack from now_is s t status = IsTurnPass (turn_of stack) stack.begun from now_is s t × (status ≡ 0)

abbrev pub IsStopTold : Stack → TurnState → TurnState → (status : ℕ) → Type 0
IsStopTold stack s t status = IsTurnStop (turn_of stack) stack.begun s t × (status ≡ 0)

-- the closings of the last accepted command, from one on
abbrev pub AreClosingsTold : (from : ℕ) → Cellar → (words words' : List ℕ) → (count status : ℕ) → Type 0
AreClosingsTold from s words words' count status = IsRestOf s.engine.wishes.closings from words words' count status
