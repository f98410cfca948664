-- What is proved of the order of steps.
use Rattle.std.specs.Prelude.{◌≡◌, ℕ, Some, None, List, map, slice_get}
use Rattle.rx_scenario.specs.Scenario.{Step}
use Rattle.rx_agenda.specs.declared.answer.Answer.{Answer}
use Rattle.rx_agenda.specs.Agenda.{Agenda, empty_agenda, with_steps, next_step}
use Rattle.rx_agenda.specs.Come.{HaveCome}
use Rattle.rx_agenda.specs.Order.{PlacedStep, Executed, done_in, ComesBefore, IsExecuted, IsInOrder, AreCancelsAnswered}

-- these steps with their answers are executed steps of the scenario in the order of the comparison, with its answers to cancels
pub record AreStepsInOrder (steps : List Step) (until : ℕ) (done : List (Step × Answer)) : Type 0 where
  pub executed : List Executed
  pub told : map done_in executed ≡ done
  pub in_order : IsInOrder steps until executed
  pub cancels : AreCancelsAnswered steps executed

-- whatever the steps are answered: once nothing comes next, they came in that order
abbrev pub RunsAreInOrder : Type 0
RunsAreInOrder = (steps : List Step) (until : ℕ) (done : List (Step × Answer)) (left : Agenda) → HaveCome until (with_steps steps empty_agenda) done left
    → next_step until left ≡ None → AreStepsInOrder steps until done

-- what the answers are, as far as both go, determines which steps come, and in which order
abbrev pub OrderIsDetermined : Type 0
OrderIsDetermined = (steps : List Step) (until : ℕ) (one other : List Executed) → IsInOrder steps until one → IsInOrder steps until other
    → ((k : ℕ) (x y : Executed) → slice_get one k ≡ Some x → slice_get other k ≡ Some y → x.answer ≡ y.answer) → one ≡ other

-- in its turn the step that heads it comes first
abbrev pub HeadsComeFirst : Type 0
HeadsComeFirst = (steps : List Step) (until : ℕ) (executed : List Executed) → IsInOrder steps until executed
    → (x y : PlacedStep) → IsExecuted executed x → IsExecuted executed y → x.turn ≡ y.turn → x.origin ≡ x.turn.head → ¬ (y.origin ≡ y.turn.head)
    → ComesBefore x y
