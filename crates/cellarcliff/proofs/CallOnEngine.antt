-- A call on what a handle keeps, which was taken out and is put back.
use Rattle.std.proofs.Common.{◌≡◌, ◌∙◌, ℕ, Option, Some, sym, ap}
use Rattle.rx_engine.specs.States.{IsPromised}
use Rattle.rx_cellar.specs.declared.cellar.Cellar.{Cellar}
use Rattle.rx_turns.specs.declared.turns.Turns.{Turns}
use Rattle.rx_turns.specs.States.{TurnState, turn_state}
use Rattle.cellarcliff.specs.Calls.{IsLooked, looks}
use Rattle.cellarcliff.specs.Steps.{IsTurned, turns}

pub looked : {Says : Cellar → ℕ → Type 0} {IsBlank : Type 0} {old new : Option Turns} {was seen : Turns} {status : ℕ}
    → old ≡ Some was → new ≡ Some was → seen ≡ was → Says seen.cellar status → IsLooked Says IsBlank old new status
looked taken put same says = looks (taken ∙ ap (λ (k : Turns). Some k) (sym same)) (put ∙ ap (λ (k : Turns). Some k) (sym same)) says

pub turned : {Says : TurnState → TurnState → ℕ → Type 0} {IsBlank : Type 0} {old new : Option Turns} {was is on : Turns} {status : ℕ}
    → old ≡ Some was → new ≡ Some is → on ≡ was → IsPromised is.cellar.engine → Says (turn_state on) (turn_state is) status →
    IsTurned Says IsBlank old new status
turned taken put same promised says = turns (taken ∙ ap (λ (k : Turns). Some k) (sym same)) put promised says
