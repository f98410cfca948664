use Rattle.std.proofs.Common.{◌-◌}
use Rattle.rx_turns.specs.States.{TurnState, turn_state}
use Rattle.rx_turns.specs.Ending.{TurnIsOver, StopsDeeper}
use Rattle.rx_turns.proofs.Passed.{IsPassed}
use Rattle.rx_turns.proofs.turns.Turns.end_deeper.Given as goal

abbrev pub invariant-loop-inner : goal.invariant-loop-inner
invariant-loop-inner l = IsPassed TurnIsOver l.fn.turn l.last (turn_state l.self).agenda
    × ((b : TurnState) → StopsDeeper l.fn.turn b (turn_state l.self) → StopsDeeper l.fn.turn b (turn_state l.fn.self))

abbrev pub decreases-loop-inner : goal.decreases-loop-inner
decreases-loop-inner l = 18446744073709551615 - l.last.depth
