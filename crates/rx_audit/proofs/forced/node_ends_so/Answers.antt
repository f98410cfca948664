use Rattle.rx_audit.proofs.EndsDue.{forced_closed, forced_nowhere, forced_made}
use Rattle.rx_audit.proofs.forced.node_ends_so.Goals as goal
use Rattle.std.proofs.Common.{rules}

pub returns-then-not-is_marked : goal.returns-then-not-is_marked
returns-then-not-is_marked c = search (rules, forced_closed)

pub returns-in-Some : goal.returns-in-Some
returns-in-Some c = search (rules, forced_made)

pub returns-in-None : goal.returns-in-None
returns-in-None c = search (rules, forced_nowhere)
