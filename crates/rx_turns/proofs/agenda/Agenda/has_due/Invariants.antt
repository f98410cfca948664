use Rattle.rx_turns.proofs.NothingDue.{AreEmpty}
use Rattle.rx_turns.proofs.agenda.Agenda.has_due.Given as goal

abbrev pub invariant-loop-line : goal.invariant-loop-line
invariant-loop-line l = AreEmpty l.self.lists l.line
