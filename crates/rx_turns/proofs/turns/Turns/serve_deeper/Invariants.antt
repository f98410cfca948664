use Rattle.std.proofs.Common.{Option, ◌-◌}
use Rattle.rx_turns.specs.declared.agenda.Task.{Task}
use Rattle.rx_turns.specs.Agendas.{HasNothing}
use Rattle.rx_turns.specs.States.{TurnState, turn_state}
use Rattle.rx_turns.specs.Serving.{ServesDeeper}
use Rattle.rx_turns.proofs.Passed.{IsPassed}
use Rattle.rx_turns.proofs.turns.Turns.serve_deeper.Given as goal

abbrev pub invariant-loop-inner : goal.invariant-loop-inner
invariant-loop-inner l = IsPassed HasNothing l.fn.turn l.last (turn_state l.self).agenda
    × ((b : TurnState) (answer : Option Task) → ServesDeeper l.fn.turn b (turn_state l.self) answer → ServesDeeper l.fn.turn b (turn_state l.fn.self) answer)

abbrev pub decreases-loop-inner : goal.decreases-loop-inner
decreases-loop-inner l = 18446744073709551615 - l.last.depth
