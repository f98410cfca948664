use Rattle.std.proofs.Common.{length}
use Rattle.rx_turns.specs.Rows.{IsTheLine}
use Rattle.rx_turns.specs.Agendas.{due_to}
use Rattle.rx_turns.specs.Seen.{seen}
use Rattle.rx_turns.proofs.Emptied.{LessIsDue}
use Rattle.rx_turns.proofs.agenda.Agenda.empty.Given as goal

abbrev pub invariant-loop-place : goal.invariant-loop-place
invariant-loop-place l = LessIsDue l.on.turn (seen l.fn.self) (seen l.self) × IsTheLine l.on l.self.rows.items

abbrev pub decreases-loop-place : goal.decreases-loop-place
decreases-loop-place l = length (due_to (seen l.self) l.on.turn)
