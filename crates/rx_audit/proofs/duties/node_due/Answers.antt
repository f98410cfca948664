use Rattle.rx_audit.proofs.Common.{sym, ◌∙◌, is_some}
use Rattle.rx_audit.proofs.DueListCovers.{due_closed, due_nowhere, due_made_at}
use Rattle.rx_audit.proofs.duties.node_due.Goals as goal
use Rattle.std.proofs.Common.{rules}

pub returns-then-not-is_marked : goal.returns-then-not-is_marked
returns-then-not-is_marked c = search (rules, due_closed)

pub returns-in-Some : goal.returns-in-Some
returns-in-Some c = search (rules, is_some, due_made_at)

pub returns-in-None : goal.returns-in-None
returns-in-None c = sym (due_nowhere c.args.past.now c.args.n (sym c.event_at.ensures ∙ c.in-None.is))
