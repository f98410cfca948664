-- What a checkpoint answers.
use Rattle.std.specs.Prelude.{◌≡◌, ℕ, length, None, Result, IfOk, IfErr, OnOk, OnErr}
use Rattle.rx_event.specs.declared.refusal.Refusal.{Refusal}
use Rattle.rx_event.specs.Kept.{shown}
use Rattle.rx_event.specs.Bases.{base_of, Agree}
use Rattle.rx_event.specs.Refusals.{first_cause, IsRefusal}
use Rattle.rx_event.specs.Causes.{checkpoint_causes}
use Rattle.rx_book.specs.State.{State}

-- what old's history leaves stands in its place and no event follows it; the two agree, what is there is as before under its keys,
-- and notes count anew
pub record Checkpoints (old new : State) : Type 0 where
  pub no_cause : first_cause (checkpoint_causes old.history old.given) ≡ None
  pub base : new.base ≡ base_of old.base old.history
  pub history : new.history ≡ shown new.base
  pub agree : Agree old.base old.history new.base new.history
  pub limit : new.limit ≡ old.limit
  pub keys : new.keys ≡ old.keys
  pub res_keys : new.res_keys ≡ old.res_keys
  pub lease_keys : new.lease_keys ≡ old.lease_keys
  pub held : new.held ≡ old.held
  pub waiting : new.waiting ≡ old.waiting
  pub given : new.given ≡ 0
  pub closed : new.closed ≡ old.closed

-- made, with the number of events so far; or refused for the first cause, where none stands for want of memory, with nothing changed
pub record AnswersCheckpoint (old new : State) (answer : Result ℕ Refusal) : Type 0 where
  pub ok : IfOk answer (λ at. at ≡ length old.history)
  pub made : OnOk answer (Checkpoints old new)
  pub refused : IfErr answer (IsRefusal (checkpoint_causes old.history old.given))
  pub kept : OnErr answer (new ≡ old)
