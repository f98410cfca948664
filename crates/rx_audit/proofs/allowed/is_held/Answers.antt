use Rattle.rx_audit.proofs.Common.{sym, ◌∙◌}
use Rattle.rx_audit.proofs.Allowing.{owned_held, leased_held}
use Rattle.rx_audit.proofs.allowed.is_held.Goals as goal

pub returns-then-is_owned : goal.returns-then-is_owned
returns-then-is_owned c = owned_held c.args.past.now c.args.r (sym c.if-is_owned.ensures)

pub returns : goal.returns
returns c = c.is_leased.ensures ∙ leased_held c.args.past.now c.args.r (sym c.if-is_owned.ensures)
