use Rattle.std.proofs.Common.{Option, length}
use Rattle.rx_turns.specs.declared.agenda.Task.{Task}
use Rattle.rx_turns.specs.Rows.{IsTheLine}
use Rattle.rx_turns.specs.Agendas.{due_to}
use Rattle.rx_turns.specs.States.{TurnState, turn_state}
use Rattle.rx_turns.specs.Serving.{TakesDue}
use Rattle.rx_turns.proofs.turns.Turns.begin.Given as goal

-- the line stays, and whatever comes to its end from here on does so from the beginning
abbrev pub invariant-loop-place : goal.invariant-loop-place
invariant-loop-place l = IsTheLine l.on l.self.agenda.rows.items × ((b : TurnState) (answer : Option Task) → TakesDue l.on.turn b (turn_state l.self) answer →
    TakesDue l.on.turn b (turn_state l.fn.self) answer)

abbrev pub decreases-loop-place : goal.decreases-loop-place
decreases-loop-place l = length (due_to (turn_state l.self).agenda l.on.turn)
