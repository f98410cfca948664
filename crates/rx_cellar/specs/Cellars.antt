-- An engine with what is counted beside it, and what a command makes of it.
use Rattle.std.specs.Prelude.{◌≡◌, ◌≢◌, ℕ, ◌+◌, ◌*◌, ◌-◌, ◌^◌, nat_lt, min, max, Bool, true, false, List, [], ◌∷◌, length, Option, Some, None, option_map, Result, Ok, Err}
use Rattle.rx_resource.specs.declared.Resource.{Ghosts}
use Rattle.rx_resource.specs.declared.token.Token.{Token}
use Rattle.rx_event.specs.declared.refusal.Refusal.{Refusal}
use Rattle.rx_event.specs.declared.refusal.Refusal.TheVariants.{Full}
use Rattle.rx_event.specs.Totals.{open_count, held_count}
use Rattle.rx_roles.specs.declared.effect.Effect.{Effect as Sent}
use Rattle.rx_roles.specs.declared.effect.What.{What}
use Rattle.rx_roles.specs.declared.effect.What.TheVariants.{Release}
use Rattle.rx_engine.specs.States.{State, IsPromised}
use Rattle.rx_engine.specs.Checkpoints.{IsCheckpointMade}
use Rattle.rx_cellar.specs.Codes.{refusal_status}
use Rattle.rx_cellar.specs.declared.shapes.Answer.{Answer}
use Rattle.rx_cellar.specs.declared.shapes.Effect.{Effect}
use Rattle.rx_cellar.specs.declared.making.Made.{Made}
use Rattle.rx_cellar.specs.declared.asked.Asked.{Asked}
use Rattle.rx_cellar.specs.declared.cellar.Cellar.{Cellar}
use Rattle.rx_cellar.specs.Crossings.{effect_of, no_answer}
use Rattle.rx_cellar.specs.Makings.{Outcome, ComesTo}

-- the largest number that is counted
abbrev pub most : ℕ
most = 2 ^ 64 - 1

-- where the engine chooses: so many events, and four times what is open and held where that is more
abbrev pub few_events : ℕ
few_events = 4000

abbrev pub most_since : State → ℕ
most_since s = max (min (min (open_count s.book.history + held_count s.book.history) most * 4) most) few_events

abbrev pub is_past : (at count : ℕ) → Option ℕ → Bool
is_past at count None = false
is_past at count (Some until) = nat_lt until (count - at)

-- a checkpoint is to be made
abbrev pub is_due : Cellar → Bool
is_due s = is_past s.at (length s.engine.book.history) s.until

-- a checkpoint was made, from which events are counted then; or it was refused, and nothing changed
abbrev pub counts_from : Result ℕ Refusal → State → Cellar → Cellar
counts_from (Ok at) e s = record s { engine = e; at = at; until = option_map (λ _. most_since e) s.until }
counts_from (Err why) e s = record s { engine = e }

-- one was asked for, and is counted from where it was made; before it and behind it the engine keeps its promise
pub record Tidies (s t : Cellar) (answer : Result ℕ Refusal) : Type 0 where
  pub stood : IsPromised s.engine
  pub made : IsCheckpointMade s.engine t.engine answer
  pub stands : IsPromised t.engine
  pub counts : t ≡ counts_from answer t.engine s

-- whatever is answered to that
pub record IsTidied (s t : Cellar) : Type 0 where
  pub answer : Result ℕ Refusal
  pub tidies : Tidies s t answer

abbrev pub IsTidyIf : Bool → Cellar → Cellar → Type 0
IsTidyIf true s t = IsTidied s t
IsTidyIf false s t = t ≡ s

-- where one is to be made
abbrev pub IsTidy : Cellar → Cellar → Type 0
IsTidy s t = IsTidyIf (is_due s) s t

-- the engine made it, and nothing else changed
pub record Performs (g : Ghosts Token) (asked : Asked) (by : ℕ) (s t : Cellar) (answer : Result Outcome Refusal) : Type 0 where
  pub performed : ComesTo g asked by s.engine t.engine answer
  pub only : t ≡ record s { engine = t.engine }

-- what a second try came to, behind a checkpoint; or the checkpoint was refused, and so is the command, for its cause
pub data IsTriedAgain (g : Ghosts Token) (asked : Asked) (by : ℕ) (s t : Cellar) : Result Outcome Refusal → Type 0 where
  behind_one : {answer : Result Outcome Refusal} (at : ℕ) (u : Cellar) → Tidies s u (Ok at) → Performs g asked by u t answer → IsTriedAgain g asked by s t answer
  behind_none : {why : Refusal} → Tidies s t (Err why) → IsTriedAgain g asked by s t (Err why)

-- made or refused; where the history was full, that is what the second try came to
pub data IsTried (g : Ghosts Token) (asked : Asked) (by : ℕ) (s t : Cellar) : Result Outcome Refusal → Type 0 where
  at_once : {answer : Result Outcome Refusal} → answer ≢ Err Full → Performs g asked by s t answer → IsTried g asked by s t answer
  once_more : {answer : Result Outcome Refusal} (u : Cellar) → Performs g asked by s u (Err Full) → IsTriedAgain g asked by u t answer → IsTried g asked by s t answer

-- so many releases were told with this effect, and without it
abbrev pub counted : What → ℕ → ℕ
counted Release n = min (n + 1) most
counted _ n = n

abbrev pub uncounted : What → ℕ → ℕ
uncounted Release n = n - 1
uncounted _ n = n

-- the front of these words is the list, as far as they go
abbrev pub filled : List ℕ → List ℕ → List ℕ
filled [] words = words
filled (x ∷ xs) [] = []
filled (x ∷ xs) (w ∷ words) = x ∷ filled xs words

-- what was done, as the answer tells it
abbrev pub told : Made → State → Answer → Answer
told m e a = record a {
  node = m.node;
  other = m.other;
  is_connected = m.is_connected;
  hub = m.hub;
  copies = e.parts.copies;
  closed = length e.wishes.closings;
  closings = filled e.wishes.closings a.closings;
}

abbrev pub counted_if : Option Sent → ℕ → ℕ
counted_if None n = n
counted_if (Some sent) n = counted sent.what n

-- what is handed out counts as told
abbrev pub counted_with : Outcome → Cellar → Cellar
counted_with o s = record s { released = counted_if o.given s.released }

-- and crosses
abbrev pub given_out : Outcome → Option Effect
given_out o = option_map effect_of o.given

-- done, and all of it told; or refused, and nothing is told or given
pub data IsAskedMade (g : Ghosts Token) (asked : Asked) (by : ℕ) (s t : Cellar) (a b : Answer) (given : Option Effect) : ℕ → Type 0 where
  is_done : (o : Outcome) (u v : Cellar) → IsTidy s u → IsTried g asked by u v (Ok o) → t ≡ counted_with o v → b ≡ told o.made v.engine a →
      given ≡ given_out o → IsAskedMade g asked by s t a b given 0
  is_refused : (why : Refusal) (u : Cellar) → IsTidy s u → IsTried g asked by u t (Err why) → b ≡ a → given ≡ None →
      IsAskedMade g asked by s t a b given (refusal_status why)

-- what a command asks, if its numbers ask something
abbrev pub IsMadeIf : Ghosts Token → Option Asked → (by : ℕ) → Cellar → Cellar → Answer → Answer → Option Effect → ℕ → Type 0
IsMadeIf g None by s t a b given status = (status ≡ 5) × (t ≡ s) × (b ≡ a) × (given ≡ None)
IsMadeIf g (Some asked) by s t a b given status = IsAskedMade g asked by s t a b given status

-- whatever the answer told before
abbrev pub IsCommandMade : Ghosts Token → Option Asked → (by : ℕ) → Cellar → Cellar → Answer → Answer → Option Effect → ℕ → Type 0
IsCommandMade g asked by s t a b given status = IsMadeIf g asked by s t (no_answer a) b given status
