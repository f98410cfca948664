use Rattle.rx_audit.proofs.Common.{sym}
use Rattle.rx_audit.proofs.Refusing.{many_tested, few_tested}
use Rattle.rx_audit.proofs.allowed.item_refusal.Goals as goal

pub returns-then-not-branch-clause-value : goal.returns-then-not-branch-clause-value
returns-then-not-branch-clause-value c = many_tested c.args.past.now c.args.l c.args._value c.in_ok-reached.field-0 _ c.in_ok-reached.ensures
    c.if-not-branch.true (sym c.if-not-is_open_node.ensures) (sym c.if-not-is_leaf.ensures)

pub returns-clause-value : goal.returns-clause-value
returns-clause-value c = few_tested c.args.past.now c.args.l c.args._value c.in_ok-reached.field-0 _ (λ m. m.few) c.in_ok-reached.ensures
    c.if-not-branch.false (sym c.if-not-is_open_node.ensures) (sym c.if-not-is_leaf.ensures)
