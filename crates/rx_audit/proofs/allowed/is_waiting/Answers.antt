use Rattle.rx_audit.proofs.Common.{sym, makes_resource, at_within}
use Rattle.rx_audit.proofs.Allowing.{waiting_at, not_waiting}
use Rattle.rx_audit.proofs.allowed.is_waiting.Goals as goal
use Rattle.std.proofs.Common.{rules}

pub is_left_over-requires-clause-within : goal.is_left_over-requires-clause-within
is_left_over-requires-clause-within c = at_within makes_resource c.args.past.now c.args.r (sym c.if-not-is_resource.ensures)

pub returns-then-not-is_resource : goal.returns-then-not-is_resource
returns-then-not-is_resource c = not_waiting c.args.past.now c.args.r (sym c.if-not-is_resource.ensures)

pub returns : goal.returns
returns c = search (rules, waiting_at)
