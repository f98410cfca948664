use Rattle.rx_audit.proofs.Common.{length, get_or, is_open_past}
use Rattle.rx_audit.proofs.StaysOpen.{marked_after, stays_closed}
use Rattle.rx_audit.proofs.ClosingBelow.{count_set}
use Rattle.rx_audit.proofs.closing.mark_open.Goals as goal
use Rattle.std.proofs.Common.{rules}

pub returns-clause-marked : goal.returns-clause-marked
returns-clause-marked c = search (rules, marked_after)

pub returns-clause-count : goal.returns-clause-count
returns-clause-count c = search (rules, get_or, length, stays_closed, is_open_past, count_set)
