use Rattle.std.proofs.Common.{◌≤◌}
use Rattle.rx_turns.specs.Rows.{AreSettled}
use Rattle.rx_turns.proofs.Marked.{AreMarkedTo}
use Rattle.rx_turns.proofs.agenda.mark.Given as goal

abbrev pub invariant-loop-line : goal.invariant-loop-line
invariant-loop-line l = AreMarkedTo l.by l.ticket l.fn.rows.items l.rows.items l.line × AreSettled l.behind l.rows.items × (l.behind ≤ l.line)
