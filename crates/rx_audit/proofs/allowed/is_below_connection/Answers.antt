use Rattle.rx_audit.proofs.Common.{sym, ◌∙◌, parent-lt}
use Rattle.rx_audit.proofs.Allowing.{order_above, order_top, order_broken}
use Rattle.rx_audit.proofs.allowed.is_below_connection.Goals as goal

pub returns-then-connects_up_to : goal.returns-then-connects_up_to
returns-then-connects_up_to c =
    sym (c.loop-g.invariant ∙ order_broken c.args.past.now c.args.g c.loop-g.a (sym c.if-connects_up_to.ensures))

pub loop-g-smaller : goal.loop-g-smaller
loop-g-smaller c = parent-lt c.args.past.now c.loop-g.a c.in-Some.above (sym c.in-Some.ensures)

pub loop-g-preserved : goal.loop-g-preserved
loop-g-preserved c =
    c.loop-g.invariant ∙ order_above c.args.past.now c.args.g c.loop-g.a c.in-Some.above (sym c.in-Some.ensures) (sym c.if-connects_up_to.ensures)

pub returns-in-None : goal.returns-in-None
returns-in-None c =
    sym (c.loop-g.invariant ∙ order_top c.args.past.now c.args.g c.loop-g.a (sym c.in-None.ensures) (sym c.if-connects_up_to.ensures))
