use Rattle.rx_event.proofs.Laws.MarksDue.{due_at_due, due_at_none, settled_by_marks, settled_quiet}
use Rattle.rx_event.proofs.Laws.OneEnd.{one_end, due_by_marks_alone}
use Rattle.rx_event.proofs.theorems.marks.marks_say_what_is_due.Goals as goal
use Rattle.std.proofs.Common.{rules}

pub returns : goal.returns
returns c = search (rules, due_at_due, due_at_none, one_end, due_by_marks_alone, settled_by_marks, settled_quiet)
