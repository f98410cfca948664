-- What a checkpoint of an engine leaves, and what it answers.
use Rattle.std.specs.Prelude.{◌≡◌, ℕ, ◌≤◌, ◌<◌, ◌⊎◌, length, Result, IfOk, IfErr, OnOk, OnErr}
use Rattle.rx_event.specs.Causes.{most_places}
use Rattle.rx_event.specs.declared.refusal.Refusal.{Refusal}
use Rattle.rx_event.specs.declared.refusal.Refusal.TheVariants.{NoMemory, TooMany}
use Rattle.rx_book.specs.Checkpoints.{Checkpoints}
use Rattle.rx_engine.specs.States.{State}

-- the book has what its history leaves in the place of its events, and nothing else changed: each role, home, share and wish stays, with
-- what waits in lanes, and so do the closings and the due lanes of the last command
pub record IsCheckpointed (s t : State) : Type 0 where
  pub book : Checkpoints s.book t.book
  pub parts : t.parts ≡ s.parts
  pub wishes : t.wishes ≡ s.wishes

-- made, with the number of events so far; or refused past the last place for one, else for want of memory, and nothing changed
pub record IsCheckpointMade (s t : State) (answer : Result ℕ Refusal) : Type 0 where
  pub ok : IfOk answer (λ at. at ≡ length s.book.history)
  pub made : OnOk answer (IsCheckpointed s t)
  pub refused : IfErr answer (λ why. ((most_places < length s.book.history) × (why ≡ TooMany)) ⊎
      ((length s.book.history ≤ most_places) × (why ≡ NoMemory)))
  pub kept : OnErr answer (t ≡ s)
