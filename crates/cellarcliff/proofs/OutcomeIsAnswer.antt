-- An outcome that is handed out is an answer.
use Rattle.std.proofs.Common.{ℕ, List, Result, Ok, Err, IfOk, IsErrOf, inl, inr, refl, sym, subst, string_bytes}
use Rattle.rx_device.specs.declared.fault.ScriptError.{ScriptError}
use Rattle.rx_device.specs.declared.fault.ScriptError.TheVariants.{Read, Write, Syntax, Shape, Memory}
use Rattle.cellarcliff.specs.declared.handing.Said.{Said}
use Rattle.cellarcliff.specs.Answers.{AnswersText, gives, needs, faults, starves}
use Rattle.cellarcliff.specs.Handing.{IsHandedOut}

pub answered : {Tells : List ℕ → ℕ → Type 0} {IsFaulty : Type 0} (outcome : Result Said ScriptError) {buffer buffer' : List ℕ} {told status : ℕ}
    → IfOk outcome (λ s. Tells (string_bytes s.text) s.status) → (IsErrOf outcome Syntax → IsFaulty) → (IsErrOf outcome Shape → IsFaulty)
    → IsHandedOut outcome buffer buffer' told status → AnswersText Tells IsFaulty buffer buffer' told status
answered {Tells} {IsFaulty} (Ok said) {buffer} {buffer'} {told} tells syntax shape (inl (given, e)) =
    subst (λ (s : ℕ). AnswersText Tells IsFaulty buffer buffer' told s) (sym e) (gives tells given)
answered {Tells} {IsFaulty} (Ok said) {buffer} {buffer'} {told} tells syntax shape (inr (long, e)) =
    subst (λ (s : ℕ). AnswersText Tells IsFaulty buffer buffer' told s) (sym e) (needs tells long)
answered {Tells} {IsFaulty} (Err Read) {buffer} {buffer'} {told} tells syntax shape (silent, e) =
    subst (λ (s : ℕ). AnswersText Tells IsFaulty buffer buffer' told s) (sym e) (starves silent)
answered {Tells} {IsFaulty} (Err Write) {buffer} {buffer'} {told} tells syntax shape (silent, e) =
    subst (λ (s : ℕ). AnswersText Tells IsFaulty buffer buffer' told s) (sym e) (starves silent)
answered {Tells} {IsFaulty} (Err Syntax) {buffer} {buffer'} {told} tells syntax shape (silent, e) =
    subst (λ (s : ℕ). AnswersText Tells IsFaulty buffer buffer' told s) (sym e) (faults (syntax refl) silent)
answered {Tells} {IsFaulty} (Err Shape) {buffer} {buffer'} {told} tells syntax shape (silent, e) =
    subst (λ (s : ℕ). AnswersText Tells IsFaulty buffer buffer' told s) (sym e) (faults (shape refl) silent)
answered {Tells} {IsFaulty} (Err Memory) {buffer} {buffer'} {told} tells syntax shape (silent, e) =
    subst (λ (s : ℕ). AnswersText Tells IsFaulty buffer buffer' told s) (sym e) (starves silent)
