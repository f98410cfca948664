use Rattle.rx_audit.proofs.EndsDue.{some_waits, none_waits_at}
use Rattle.rx_audit.proofs.forced.any_connect_due.Goals as goal
use Rattle.std.proofs.Common.{rules}

pub returns-in-Some : goal.returns-in-Some
returns-in-Some c = search (rules, some_waits)

pub returns-in-None : goal.returns-in-None
returns-in-None c = search (rules, none_waits_at)
