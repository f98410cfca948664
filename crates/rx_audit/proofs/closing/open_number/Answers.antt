use Rattle.rx_audit.proofs.Common.{sym, ◌∙◌}
use Rattle.rx_audit.proofs.ClosingBelow.{alone_number, none_number}
use Rattle.rx_audit.proofs.closing.open_number.Goals as goal

pub returns-then-is_marked : goal.returns-then-is_marked
returns-then-is_marked c = alone_number c.args.past.now c.args.n (sym (c.requires.tied c.args.n) ∙ sym c.if-is_marked.ensures)

pub returns-else-is_marked : goal.returns-else-is_marked
returns-else-is_marked c = none_number c.args.past.now c.args.n (sym (c.requires.tied c.args.n) ∙ sym c.if-is_marked.ensures)
