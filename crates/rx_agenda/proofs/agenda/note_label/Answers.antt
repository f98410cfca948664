use Rattle.rx_agenda.proofs.Common.{string_bytes, is_some}
use Rattle.rx_agenda.proofs.NextStepAndCancel.{with_label-bound, with_label-free}
use Rattle.rx_agenda.proofs.agenda.note_label.Goals as goal
use Rattle.std.proofs.Common.{rules}

pub returns-then-is_bound : goal.returns-then-is_bound
returns-then-is_bound c =
    search (rules, is_some, string_bytes, with_label-bound)

pub returns : goal.returns
returns c =
    search (rules, is_some, string_bytes, with_label-free)
