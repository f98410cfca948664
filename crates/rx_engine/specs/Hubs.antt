-- Making the hubs of the pool, one after another.
use Rattle.std.specs.Prelude.{◌≡◌, ◌==◌, ℕ, ◌≤◌, ◌++◌, [], ◌∷◌, length, if◌then◌else◌, Result, IfErr, OnOk, OnErr, ◌⊎◌}
use Rattle.std.proofs.Common.{◌/◌, ◌%◌}
use Rattle.rx_resource.specs.declared.Resource.{Ghosts}
use Rattle.rx_resource.specs.declared.token.Token.{Token}
use Rattle.rx_event.specs.declared.event.Mode.{Mode}
use Rattle.rx_event.specs.declared.event.Mode.TheVariants.{Auto, Manual}
use Rattle.rx_event.specs.declared.refusal.Refusal.{Refusal}
use Rattle.rx_event.specs.declared.refusal.Refusal.TheVariants.{NoMemory}
use Rattle.rx_book.specs.State.{State as BookState}
use Rattle.rx_book.specs.Requests.{hub_request}
use Rattle.rx_book.specs.Answers.{Accepts, IsCauseOrWant}
use Rattle.rx_pool.specs.Pool.{pool_size, new_hub}
use Rattle.rx_engine.specs.declared.parts.Parts.{Parts}
use Rattle.rx_engine.specs.States.{State, IsSeenAs}
use Rattle.rx_engine.specs.Settlements.{Settles}
use Rattle.rx_engine.specs.Closings.{Closes}

-- a hub more stands in the pool, which no node names, and nothing else changed
pub record AddsHub (p : Parts) (number : ℕ) (mode : Mode) (q : Parts) : Type 0 where
  pub list : q.shares.list ≡ p.shares.list
  pub hubs : q.shares.hubs ≡ p.shares.hubs ++ new_hub number mode ∷ []
  pub only : q ≡ record p { shares = q.shares }

-- the book made a hub, it stands in the pool, and all that it came to is done
pub record IsHubDone (g : Ghosts Token) (mode : Mode) (by : ℕ) (s t : State) : Type 0 where
  pub mid : BookState
  pub accepts : Accepts s.book (hub_request mode) mid
  pub added : Parts
  pub adds : AddsHub s.parts (length s.book.history) mode added
  pub settles : Settles g by 0 mid added t.book t.parts
  pub closes : Closes mid s.wishes.roles.list t.wishes

pub record IsHubMade {A : Type 0} (g : Ghosts Token) (mode : Mode) (by : ℕ) (s t : State) (answer : Result A Refusal) : Type 0 where
  pub done : OnOk answer (IsHubDone g mode by s t)
  pub refused : IfErr answer (λ why. (why ≡ NoMemory) ⊎ IsCauseOrWant s.book (hub_request mode) why)
  pub kept : OnErr answer (IsSeenAs s t)

-- sixteen of one mode, then sixteen of the other
abbrev pub mode_at : ℕ → Mode
mode_at place = if (place / 16) % 2 == 0 then Auto else Manual

-- so many hubs were made as there were missing, or as many as could be, each a command of its own; and nothing else changed but room
pub data MakesHubs (g : Ghosts Token) (by : ℕ) (s : State) : State → Type 0 where
  none_made : MakesHubs g by s s
  one_made : {t u : State} → MakesHubs g by s t → IsHubDone g (mode_at (length t.parts.shares.hubs)) by t u → MakesHubs g by s u
  room_gotten : {t u : State} → MakesHubs g by s t → IsSeenAs t u → MakesHubs g by s u

-- all are there; or one was refused, and those before it are there
pub record AreHubsMade {A : Type 0} (g : Ghosts Token) (by : ℕ) (s t : State) (answer : Result A Refusal) : Type 0 where
  pub makes : MakesHubs g by s t
  pub all : OnOk answer (pool_size ≤ length t.parts.shares.hubs)
  pub refused : IfErr answer (λ why. (why ≡ NoMemory) ⊎ IsCauseOrWant t.book (hub_request (mode_at (length t.parts.shares.hubs))) why)
