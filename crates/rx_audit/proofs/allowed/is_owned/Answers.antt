use Rattle.rx_audit.proofs.Common.{sym, ◌∙◌}
use Rattle.rx_audit.proofs.Allowing.{owned_at, not_owned}
use Rattle.rx_audit.proofs.allowed.is_owned.Goals as goal

pub returns-in-Some : goal.returns-in-Some
returns-in-Some c = c.stays_owned.ensures ∙ owned_at c.args.past.now c.args.r c.in-Some.n (sym c.in-Some.ensures)

pub returns-in-None : goal.returns-in-None
returns-in-None c = not_owned c.args.past.now c.args.r (sym c.in-None.ensures)
