use Rattle.rx_turns.proofs.Deeper.{IsFoundTo}
use Rattle.rx_turns.proofs.agenda.next_deeper.Given as goal

abbrev pub invariant-loop-line : goal.invariant-loop-line
invariant-loop-line l = IsFoundTo l.turn l.rows l.found l.line
