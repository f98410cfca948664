use Rattle.rx_audit.proofs.Common.{take, IsVisited}
use Rattle.rx_audit.proofs.nodes.remark_visits.Given as goal

abbrev pub invariant-loop-visit : goal.invariant-loop-visit
invariant-loop-visit l = IsVisited l.past (take l.visit-index l.log) l.initial.marks.items l.marks.items l.initial.due.items l.due.items
