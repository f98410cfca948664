use Rattle.rx_audit.proofs.SubscriberRows.{rows_out}
use Rattle.rx_audit.proofs.ClosingBelow.{mark_gone}
use Rattle.rx_audit.proofs.subscribers.leave_out.Goals as goal
use Rattle.std.proofs.Common.{rules}

pub returns-clause-linked : goal.returns-clause-linked
returns-clause-linked c = search (rules, rows_out)

pub returns-clause-new : goal.returns-clause-new
returns-clause-new c = search (rules, mark_gone)
