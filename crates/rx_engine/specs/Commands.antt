-- What a command does and answers.
use Rattle.std.specs.Prelude.{ℕ, Result, OnOk, OnErr, IfErr}
use Rattle.rx_resource.specs.declared.Resource.{Ghosts}
use Rattle.rx_resource.specs.declared.token.Token.{Token}
use Rattle.rx_event.specs.declared.refusal.Refusal.{Refusal}
use Rattle.rx_book.specs.State.{State as BookState}
use Rattle.rx_book.specs.Requests.{Request}
use Rattle.rx_book.specs.Answers.{Accepts, IsCause, IsCauseOrWant}
use Rattle.rx_engine.specs.States.{State, IsSeenAs}
use Rattle.rx_engine.specs.Settlements.{Settles}
use Rattle.rx_engine.specs.Closings.{Closes}

-- the book accepted what was asked, and all that it came to is done
pub record IsDone (g : Ghosts Token) (asked : Request) (by value : ℕ) (s t : State) : Type 0 where
  pub mid : BookState
  pub accepts : Accepts s.book asked mid
  pub settles : Settles g by value mid s.parts t.book t.parts
  pub closes : Closes mid s.wishes.roles.list t.wishes

-- done; or refused, and nothing changed but room
pub record IsMade {A : Type 0} (g : Ghosts Token) (refuses : Refusal → Type 0) (asked : Request) (by value : ℕ)
    (s t : State) (answer : Result A Refusal) : Type 0 where
  pub done : OnOk answer (IsDone g asked by value s t)
  pub refused : IfErr answer refuses
  pub kept : OnErr answer (IsSeenAs s t)

-- of a command that takes no memory: refused for the first cause
abbrev pub IsFreeMade : {A : Type 0} → Ghosts Token → (State → Request) → (by value : ℕ) → State → State →
    Result A Refusal → Type 0
IsFreeMade g asked by value s t = IsMade g (IsCause s.book (asked s)) (asked s) by value s t

-- and of one that may take some: for that, or for want of memory where none stands
abbrev pub IsCostlyMade : {A : Type 0} → Ghosts Token → (State → Request) → (by value : ℕ) → State → State →
    Result A Refusal → Type 0
IsCostlyMade g asked by value s t = IsMade g (IsCauseOrWant s.book (asked s)) (asked s) by value s t
