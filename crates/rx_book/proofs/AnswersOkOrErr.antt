-- An answer is made of what was given, or of the refusal.
use Rattle.rx_book.proofs.Common.{◌≡◌, Result, Ok, Err, IfErr, OnErr, IsErrAnd, State, Request, Accepts, Answers}
use Rattle.std.proofs.Common.{rules}

module _ {A E : Type 0} {gives : A → Type 0} {refuses : E → Type 0} {old : State} {asked : Request} {new : State} where
  pub answers_ok : {x : A} → gives x → Accepts old asked new → Answers gives refuses old asked new (Ok x)
  answers_ok ok accepted = record { ok = ok; accepted = accepted; refused = tt; kept = tt }

  pub answers_err : {e : E} → refuses e → new ≡ old → Answers gives refuses old asked new (Err e)
  answers_err refused kept = record { ok = tt; accepted = tt; refused = refused; kept = kept }

  -- what `?` passes on
  pub passed_refusal : (answer : Result A E) (why : E) → IsErrAnd answer (λ e. e ≡ why) → refuses why → new ≡ old → Answers gives refuses old asked new answer
  passed_refusal x0 why is refused kept = search (rules, answers_err)

-- the refusal that `?` passes on
pub refused_with : {A E : Type 0} (refuses : E → Type 0) (answer : Result A E) (why : E) → IsErrAnd answer (λ e. e ≡ why) → refuses why → IfErr answer refuses
refused_with refuses x1 why is refused = search rules

-- and what is so where it is refused
pub on_refusal : {A E P : Type 0} (answer : Result A E) → P → OnErr answer P
on_refusal x0 holds = search rules
