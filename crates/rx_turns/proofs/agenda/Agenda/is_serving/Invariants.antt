use Rattle.rx_turns.proofs.HandsServe.{NoneServes}
use Rattle.rx_turns.proofs.agenda.Agenda.is_serving.Given as goal

abbrev pub invariant-loop-line : goal.invariant-loop-line
invariant-loop-line l = NoneServes l.by l.word l.self.rows.items l.line
