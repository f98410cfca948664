use Rattle.rx_audit.proofs.Common.{length, drop, sum_by, same_Some}
use Rattle.rx_audit.proofs.VisitLogEntries.{read_at, entry_more, entry_within, often_set, often_push}
use Rattle.rx_audit.proofs.reach.reach.Goals as goal
use Rattle.std.proofs.Common.{rules}

pub overflow_add-index_mut : goal.overflow_add-index_mut
overflow_add-index_mut c = search (rules, length, read_at, entry_within)

pub returns-then-index-node-clause-more : goal.returns-then-index-node-clause-more
returns-then-index-node-clause-more c = search (rules, length, read_at, same_Some, entry_more, sum_by, drop)

pub returns-then-index-node-clause-often : goal.returns-then-index-node-clause-often
returns-then-index-node-clause-often c = search (rules, often_set)

pub returns-clause-often : goal.returns-clause-often
returns-clause-often c = search (rules, often_push)
