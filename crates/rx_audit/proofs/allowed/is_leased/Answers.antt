use Rattle.rx_audit.proofs.Common.{sym, nat_lt, at_within}
use Rattle.rx_audit.proofs.Allowing.{leased_there, not_leased, leases_here}
use Rattle.rx_audit.proofs.allowed.is_leased.Goals as goal
use Rattle.std.proofs.Common.{rules}

pub returns-then-not-is_resource : goal.returns-then-not-is_resource
returns-then-not-is_resource c = not_leased c.args.past.now c.args.r (sym c.if-not-is_resource.ensures)

pub returns : goal.returns
returns c = search (rules, nat_lt, leases_here, leased_there, at_within)
