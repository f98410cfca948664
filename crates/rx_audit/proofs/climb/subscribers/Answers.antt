use Rattle.rx_audit.proofs.CountedRows.{count_open, nested_entered}
use Rattle.rx_audit.proofs.climb.subscribers.Goals as goal
use Rattle.std.proofs.Common.{rules}

pub returns-clause-count : goal.returns-clause-count
returns-clause-count c = search (rules, count_open)

pub returns-clause-next : goal.returns-clause-next
returns-clause-next c = search (rules, nested_entered)
