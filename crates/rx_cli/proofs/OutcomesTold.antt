-- How an outcome is told, with what is wrong with a faulty input and without it.
use Rattle.rx_cli.proofs.Common.{◌≡◌, List, ℕ, [], Err, Ok, Result, true, false, refl, subst, sym, codes, true≢false, Watched, Bytes, IsTextWritten}
use Rattle.std.specs.Prelude.{◌++◌}
use Rattle.std.proofs.Common.{append-nil}
use Rattle.rx_device.specs.declared.fault.ScriptError.{ScriptError}
use Rattle.rx_device.specs.declared.fault.ScriptError.TheVariants.{Read, Write, Syntax, Shape, Memory}
use Rattle.rx_cli.specs.Status.{is_faulty, line_of, status_of}
use Rattle.rx_cli.specs.Served.{TellsOutcome}

module _ {E : Type 0} (contents : E → Bytes) (errors errors' : Watched E) (status : ℕ) where
  pub told_plainly : (outcome : Result ℕ ScriptError) → status ≡ status_of outcome → IsTextWritten contents errors errors' (line_of outcome)
      → TellsOutcome contents errors errors' outcome status
  told_plainly outcome says line = record {
    says = says;
    why = [];
    line = subst (IsTextWritten contents errors errors') (sym (append-nil (line_of outcome))) line;
    plain = λ _. refl;
  }

  pub told_faulty : (outcome : Result ℕ ScriptError) → is_faulty outcome ≡ true → status ≡ 3
      → (behind : List ℕ) × IsTextWritten contents errors errors' (codes "rxbook: faulty input\n" ++ behind)
      → TellsOutcome contents errors errors' outcome status
  told_faulty (Err Syntax) faulty is told = record { says = is; why = told.0; line = told.1; plain = λ not_so. absurd (true≢false not_so) }
  told_faulty (Err Shape) faulty is told = record { says = is; why = told.0; line = told.1; plain = λ not_so. absurd (true≢false not_so) }
  told_faulty (Ok x) faulty is told = absurd (true≢false (sym faulty))
  told_faulty (Err Read) faulty is told = absurd (true≢false (sym faulty))
  told_faulty (Err Write) faulty is told = absurd (true≢false (sym faulty))
  told_faulty (Err Memory) faulty is told = absurd (true≢false (sym faulty))
