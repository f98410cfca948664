-- An engine by turns, as contracts see it.
use Rattle.std.specs.Prelude.{ℕ, Option}
use Rattle.rx_cellar.specs.declared.cellar.Cellar.{Cellar}
use Rattle.rx_turns.specs.declared.turns.Turns.{Turns}
use Rattle.rx_turns.specs.Agendas.{DueLists}
use Rattle.rx_turns.specs.Seen.{seen}

-- the ticket that was given last; and a lane from this place on may have something, which nobody serves, and be due to nobody
pub record TurnState : Type 0 where
  pub agenda : DueLists
  pub cellar : Cellar
  pub tickets : ℕ
  pub astray : Option ℕ

abbrev pub turn_state : Turns → TurnState
turn_state s = record { agenda = seen s.agenda; cellar = s.cellar; tickets = s.tickets; astray = s.astray }
