-- What an outcome tells.
use Rattle.rx_storm.proofs.Common.{◌≡◌, Option, Some, None, Result, Ok, Err, IfOk, Bool, ℕ, List, refl, subst, ◌∙◌, is_ok, IfErr, OnOk, State, Totals, Lack}
use Rattle.rx_storm.proofs.Common.{Mismatch, Figures, IsStormEnd, Sums, Receipt, StormFault}
use Rattle.rx_storm.specs.Storms.{figures_of, figures_text, storm_outcome, TellsOf, TellsFrontOf, Tells, TellsFront}
use Rattle.rx_device.specs.Device.{AppendsPrefix}

-- what holds of the figures with the answer of their verdict
pub outcome_tells : (lack : Option Lack) (figures : Figures) (verdict : Result Totals Mismatch) (P : Figures → Bool → Type 0)
    → P figures (is_ok verdict) → IfOk (storm_outcome lack figures verdict) (λ told. P told.0 told.1)
outcome_tells (Some lack) figures verdict P is = tt
outcome_tells None figures verdict P is = is

-- the figures of some threads that did so are those of a storm
pub told_of : (outcome : Result Bool StormFault) (shares : Sums) (receipts : List Receipt) (released faults : ℕ) (old new : Option (List ℕ))
    → IfOk outcome (λ answer. TellsOf shares receipts released faults answer old new) → IfOk outcome (λ answer. Tells answer old new)
told_of (Ok answer) shares receipts released faults old new tells = record {
  shares = shares;
  receipts = receipts;
  released = released;
  faults = faults;
  tells = tells;
}
told_of (Err fault) shares receipts released faults old new tells = tt

-- an outcome that is Ok lacks nothing, and one that is not tells what it lacks
pub outcome_done : (lack : Option Lack) (figures : Figures) (verdict : Result Totals Mismatch)
    → OnOk (storm_outcome lack figures verdict) (lack ≡ None)
outcome_done (Some lack) figures verdict = tt
outcome_done None figures verdict = refl

pub outcome_lacks : (lack : Option Lack) (figures : Figures) (verdict : Result Totals Mismatch)
    → IfErr (storm_outcome lack figures verdict) (λ l. lack ≡ Some l)
outcome_lacks (Some lack) figures verdict = refl
outcome_lacks None figures verdict = tt

-- the figures of a book with their own releases and faults
pub own_figures : (told : Figures) (book : State) (released faults : ℕ)
    → told ≡ figures_of book released faults → told ≡ figures_of book told.released told.faults
own_figures told book released faults is = rw is refl

-- a front of the figures of some threads is one of those of a storm
pub front_of : (shares : Sums) (receipts : List Receipt) (released faults : ℕ) (old new : Option (List ℕ))
    → TellsFrontOf shares receipts released faults old new → TellsFront old new
front_of shares receipts released faults old new tells = record {
  shares = shares;
  receipts = receipts;
  released = released;
  faults = faults;
  tells = tells;
}

-- a front of these bytes is one of the figures that the threads came to
pub front_told : (outcome : Result (Figures × Bool) Lack) (told : Figures × Bool) (shares : Sums) (receipts : List Receipt) (released faults : ℕ)
    (old new : Option (List ℕ)) (bytes text : List ℕ) → outcome ≡ Ok told
    → IfOk outcome (λ t. IsStormEnd shares receipts t.0 t.1) → IfOk outcome (λ t. t.0.released ≡ released) → IfOk outcome (λ t. t.0.faults ≡ faults)
    → text ≡ figures_text told.0 → bytes ≡ text → AppendsPrefix old new bytes → TellsFrontOf shares receipts released faults old new
front_told outcome told shares receipts released faults old new bytes text is ended freed met tells same front = record {
  told = told.0;
  answer = told.1;
  released_is = subst (λ (o : Result (Figures × Bool) Lack). IfOk o (λ t. t.0.released ≡ released)) is freed;
  faults_is = subst (λ (o : Result (Figures × Bool) Lack). IfOk o (λ t. t.0.faults ≡ faults)) is met;
  ended = subst (λ (o : Result (Figures × Bool) Lack). IfOk o (λ t. IsStormEnd shares receipts t.0 t.1)) is ended;
  written = subst (λ (b : List ℕ). AppendsPrefix old new b) (same ∙ tells) front;
}
