-- A task that was found for a turn stands in hand on a line. No public clause cites this module.
use Rattle.std.specs.Prelude.{◌≡◌, ℕ, Option, Some, None}
use Rattle.rx_turns.specs.declared.agenda.Task.{Task}
use Rattle.rx_turns.specs.Agendas.{hand_at}
use Rattle.rx_turns.specs.States.{TurnState}

-- this holds of what was found, which is in hand on that line; or of none
pub data IsFoundAs (is : Option Task → Type 0) (t : TurnState) : Option ℕ → Type 0 where
  found_one : (line : ℕ) (h : Task) → hand_at t.agenda (Some line) ≡ Some h → is (Some h) → IsFoundAs is t (Some line)
  found_none : is None → IsFoundAs is t None
