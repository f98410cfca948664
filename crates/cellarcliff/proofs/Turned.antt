-- What the calls by turns tell.
use Rattle.std.proofs.Common.{◌≡◌, ℕ, Bool, [], Option, slice_index_or, ap, subst}
use Rattle.rx_resource.specs.declared.Resource.{Ghosts}
use Rattle.rx_resource.specs.declared.token.Token.{Token}
use Rattle.rx_cellar.specs.declared.shapes.Command.{Command}
use Rattle.rx_cellar.specs.declared.shapes.Answer.{Answer}
use Rattle.rx_turns.specs.declared.agenda.Turn.{Turn}
use Rattle.rx_turns.specs.declared.turns.Turns.{Turns}
use Rattle.rx_turns.specs.Rows.{own_line, blank}
use Rattle.rx_turns.specs.Agendas.{HasNothing}
use Rattle.rx_turns.specs.States.{TurnState, turn_state}
use Rattle.rx_turns.specs.Calls.{IsTurnTold, IsTurnPass, IsTurnStop}

pub passes_as : {turn other : Turn} {begun from : ℕ} {now_is : Bool} {s t : TurnState} → turn ≡ other → IsTurnPass turn begun from now_is s t →
    IsTurnPass other begun from now_is s t
passes_as {begun = begun} {from = from} {now_is = now_is} {s = s} {t = t} same is = subst (λ (u : Turn). IsTurnPass u begun from now_is s t) same is

pub stops_as : {turn other : Turn} {begun : ℕ} {s t : TurnState} → turn ≡ other → IsTurnStop turn begun s t → IsTurnStop other begun s t
stops_as {begun = begun} {s = s} {t = t} same is = subst (λ (u : Turn). IsTurnStop u begun s t) same is

pub steps_as : {g : Ghosts Token} {turn other : Turn} {begun : ℕ} {c : Option Command} {s t : TurnState} {a b : Answer} {status : ℕ} → turn ≡ other →
    IsTurnTold g turn begun c s t a b status → IsTurnTold g other begun c s t a b status
steps_as {g} {begun = begun} {c = c} {s = s} {t = t} {a = a} {b = b} {status = status} same is =
    subst (λ (u : Turn). IsTurnTold g u begun c s t a b status) same is

-- a new engine
pub nothing_due : (s : Turns) → s.agenda.rows.items ≡ [] → s.agenda.lists.lists ≡ [] → (turn : Turn) → HasNothing (turn_state s).agenda turn
nothing_due s rows lists turn = (
  ap (λ ls. slice_index_or ls (own_line turn s.agenda.rows.items) []) lists,
  ap (λ rs. (slice_index_or rs (own_line turn s.agenda.rows.items) blank).in_hand) rows,
)
