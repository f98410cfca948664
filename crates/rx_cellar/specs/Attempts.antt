-- A command that is tried, and tried again behind a checkpoint, as its answer tells it. No public clause cites this module.
use Rattle.std.specs.Prelude.{◌≡◌, ℕ, Option, Some, None, Ok, Err}
use Rattle.rx_resource.specs.declared.Resource.{Ghosts}
use Rattle.rx_resource.specs.declared.token.Token.{Token}
use Rattle.rx_event.specs.declared.refusal.Refusal.{Refusal}
use Rattle.rx_cellar.specs.Codes.{refusal_status}
use Rattle.rx_cellar.specs.declared.shapes.Answer.{Answer}
use Rattle.rx_cellar.specs.declared.shapes.Effect.{Effect}
use Rattle.rx_cellar.specs.Makings.{Outcome}
use Rattle.rx_cellar.specs.declared.asked.Asked.{Asked}
use Rattle.rx_cellar.specs.declared.cellar.Cellar.{Cellar}
use Rattle.rx_cellar.specs.Crossings.{no_answer}
use Rattle.rx_cellar.specs.Cellars.{Tidies, IsTidy, Performs, told, counted_with, given_out}

-- before a command that is known a checkpoint is made where one is to be made
abbrev pub IsTidyFor : Option Asked → Cellar → Cellar → Type 0
IsTidyFor None s t = t ≡ s
IsTidyFor (Some asked) s t = IsTidy s t

-- done, and all of it told; or refused, and nothing is told or given
pub data IsMadeOnce (g : Ghosts Token) (asked : Asked) (by : ℕ) (s t : Cellar) (a b : Answer) (given : Option Effect) (status : ℕ) : Type 0 where
  once_done : (o : Outcome) (v : Cellar) → Performs g asked by s v (Ok o) → t ≡ counted_with o v → b ≡ told o.made v.engine a → given ≡ given_out o →
      status ≡ 0 → IsMadeOnce g asked by s t a b given status
  once_refused : (why : Refusal) → Performs g asked by s t (Err why) → b ≡ a → given ≡ None → status ≡ refusal_status why →
      IsMadeOnce g asked by s t a b given status

abbrev pub IsMadeOnceIf : Ghosts Token → Option Asked → (by : ℕ) → Cellar → Cellar → Answer → Answer → Option Effect → ℕ → Type 0
IsMadeOnceIf g None by s t a b given status = (status ≡ 5) × (t ≡ s) × (b ≡ a) × (given ≡ None)
IsMadeOnceIf g (Some asked) by s t a b given status = IsMadeOnce g asked by s t a b given status

-- whatever the answer told before
abbrev pub IsTriedOnce : Ghosts Token → Option Asked → (by : ℕ) → Cellar → Cellar → Answer → Answer → Option Effect → ℕ → Type 0
IsTriedOnce g o by s t a b given status = IsMadeOnceIf g o by s t (no_answer a) b given status

-- behind a checkpoint; or that was refused, and so is the command, for its cause
pub data IsMadeAgain (g : Ghosts Token) (o : Option Asked) (by : ℕ) (s t : Cellar) (a b : Answer) (given : Option Effect) (status : ℕ) : Type 0 where
  again_done : (at : ℕ) (u : Cellar) → Tidies s u (Ok at) → IsMadeOnceIf g o by u t a b given status → IsMadeAgain g o by s t a b given status
  again_not : (why : Refusal) → Tidies s t (Err why) → b ≡ a → given ≡ None → status ≡ refusal_status why → IsMadeAgain g o by s t a b given status

abbrev pub IsTriedBehind : Ghosts Token → Option Asked → (by : ℕ) → Cellar → Cellar → Answer → Answer → Option Effect → ℕ → Type 0
IsTriedBehind g o by s t a b given status = IsMadeAgain g o by s t (no_answer a) b given status
