-- The order in which the steps of a scenario are executed, by comparison. No queue is kept here: steps are compared by their moments and
-- by where they are held.
use Rattle.std.specs.Prelude.{◌≡◌, ℕ, ◌+◌, ◌<◌, ◌≤◌, ◌⊎◌, Option, Some, None, List, slice_get, is_some, true}
use Rattle.rx_scenario.specs.Scenario.{Name, cancel, Step, list_of}
use Rattle.rx_agenda.specs.declared.answer.Answer.{Answer}
use Rattle.rx_agenda.specs.declared.answer.Answer.TheVariants.{Accepted, Refused}
use Rattle.rx_agenda.specs.declared.answer.Cause.TheVariants.{NoStep}

-- where a step is held: the number of the step that holds it, in the order of execution from 1 on, and its place in the text of that one
-- from 1 on. The scenario itself has the number 0 and holds its steps
pub record Origin : Type 0 where
  pub holder : ℕ
  pub place : ℕ

-- a turn: its moment, and where the step is held that heads it
pub record Turn : Type 0 where
  pub moment : ℕ
  pub head : Origin

-- a step, where it is held, and the turn in which it is to be executed
pub record PlacedStep : Type 0 where
  pub step : Step
  pub origin : Origin
  pub turn : Turn

-- an executed step, and its answer
pub record Executed : Type 0 where
  pub placed : PlacedStep
  pub answer : Answer

-- a step and its answer
abbrev pub done_in : Executed → Step × Answer
done_in e = (e.placed.step, e.answer)

-- the comparison ----------------------------------------------------------------------------------

-- by the order in which the steps that hold them were executed, and of one holder by its text
abbrev pub IsScheduledBefore : Origin → Origin → Type 0
IsScheduledBefore a b = (a.holder < b.holder) ⊎ ((a.holder ≡ b.holder) × (a.place < b.place))

-- turns go by moment, then by the scheduling of their heads
abbrev pub IsEarlierTurn : Turn → Turn → Type 0
IsEarlierTurn t u = (t.moment < u.moment) ⊎ ((t.moment ≡ u.moment) × IsScheduledBefore t.head u.head)

-- steps go by turn, and in one turn by their scheduling; so its head comes first, which was scheduled before any step of its turn came
abbrev pub ComesBefore : PlacedStep → PlacedStep → Type 0
ComesBefore x y = IsEarlierTurn x.turn y.turn ⊎ ((x.turn ≡ y.turn) × IsScheduledBefore x.origin y.origin)

-- what is executed, and what is missing -----------------------------------------------------------

-- the scenario's own turn, at moment 0
abbrev pub opening_turn : Turn
opening_turn = record { moment = 0; head = record { holder = 0; place = 0 } }

-- a step with a delay heads a turn, so long after its holder; any other is in the turn of its holder
abbrev pub turn_after : Turn → Origin → Option ℕ → Turn
turn_after held_in origin None = held_in
turn_after held_in origin (Some delay) = record { moment = held_in.moment + delay; head = origin }

-- a step in its turn, where its holder is in this one
abbrev pub placed_at : Turn → Origin → Step → PlacedStep
placed_at held_in origin s = record { step = s; origin = origin; turn = turn_after held_in origin s.delay }

-- the i-th step of this holder, from 0 on
abbrev pub held_by : ℕ → ℕ → Origin
held_by holder i = record { holder = holder; place = i + 1 }

-- the steps of the scenario, and those that follow an accepted step
pub data IsHeld (steps : List Step) (executed : List Executed) : PlacedStep → Type 0 where
  by_scenario : (i : ℕ) (s : Step) → slice_get steps i ≡ Some s → IsHeld steps executed (placed_at opening_turn (held_by 0 i) s)
  by_step : (k i : ℕ) (e : Executed) (s : Step) → slice_get executed k ≡ Some e → e.answer ≡ Accepted
      → slice_get (list_of e.placed.step.followers) i ≡ Some s → IsHeld steps executed (placed_at e.placed.turn (held_by (k + 1) i) s)

-- it waits for its time, under this label
abbrev pub WaitsUnder : Name → PlacedStep → Type 0
WaitsUnder label x = (x.step.label ≡ Some label) × (is_some x.step.delay ≡ true)

-- the step that this label means when the step of this number comes: it was scheduled by then, and it has yet to come. Of several steps
-- with one label, which no scenario has, the one that was scheduled first
pub record IsMeant (steps : List Step) (executed : List Executed) (label : Name) (number : ℕ) (by : Executed) (x : PlacedStep) : Type 0 where
  pub waits : WaitsUnder label x
  pub scheduled : x.origin.holder ≤ number
  pub to_come : ComesBefore by.placed x
  pub first : (y : PlacedStep) → IsHeld steps executed y → WaitsUnder label y → ¬ IsScheduledBefore y.origin x.origin

-- a cancel that was accepted means it
pub record IsCancelled (steps : List Step) (executed : List Executed) (x : PlacedStep) : Type 0 where
  pub number : ℕ
  pub by : Executed
  pub label : Name
  pub there : slice_get executed number ≡ Some by
  pub cancels : by.placed.step.action ≡ cancel label
  pub accepted : by.answer ≡ Accepted
  pub meant : IsMeant steps executed label number by x

-- what is to be executed until this time
pub record IsStepDue (steps : List Step) (until : ℕ) (executed : List Executed) (x : PlacedStep) : Type 0 where
  pub held : IsHeld steps executed x
  pub in_time : x.turn.moment ≤ until
  pub not_cancelled : ¬ IsCancelled steps executed x

-- one of the executed steps is this one
pub record IsExecuted (executed : List Executed) (x : PlacedStep) : Type 0 where
  pub number : ℕ
  pub by : Executed
  pub there : slice_get executed number ≡ Some by
  pub same : by.placed ≡ x

-- the executed steps stand in the order of the comparison, each behind the one that holds it, and they are just the due ones: missing are
-- those below a refused step, those of moments after this time, the cancelled ones, and what is below those
pub record IsInOrder (steps : List Step) (until : ℕ) (executed : List Executed) : Type 0 where
  pub in_order : (i j : ℕ) (x y : Executed) → i < j → slice_get executed i ≡ Some x → slice_get executed j ≡ Some y
      → ComesBefore x.placed y.placed
  pub behind_holder : (i : ℕ) (x : Executed) → slice_get executed i ≡ Some x → x.placed.origin.holder ≤ i
  pub only_due : (x : PlacedStep) → IsExecuted executed x → IsStepDue steps until executed x
  pub all_due : (x : PlacedStep) → IsStepDue steps until executed x → IsExecuted executed x

-- what a cancel is answered --------------------------------------------------------------------------

-- when the step of this number comes, a step waits under this label that was not cancelled before
pub record WaitsAt (steps : List Step) (executed : List Executed) (label : Name) (number : ℕ) (by : Executed) : Type 0 where
  pub placed : PlacedStep
  pub held : IsHeld steps executed placed
  pub meant : IsMeant steps executed label number by placed
  pub not_cancelled : (c : IsCancelled steps executed placed) → ¬ (c.number < number)

-- a cancel is accepted where a step waits under its label, and refused where none does
pub data IsCancelAnswered (steps : List Step) (executed : List Executed) (label : Name) (number : ℕ) (by : Executed) : Answer → Type 0 where
  one_waits : WaitsAt steps executed label number by → IsCancelAnswered steps executed label number by Accepted
  no_step_waits : ¬ WaitsAt steps executed label number by → IsCancelAnswered steps executed label number by (Refused NoStep)

-- each executed cancel is answered so
abbrev pub AreCancelsAnswered : List Step → List Executed → Type 0
AreCancelsAnswered steps executed = (i : ℕ) (x : Executed) (label : Name) → slice_get executed i ≡ Some x → x.placed.step.action ≡ cancel label
    → IsCancelAnswered steps executed label i x x.answer
