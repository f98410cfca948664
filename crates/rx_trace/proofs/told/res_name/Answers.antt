use Rattle.rx_trace.proofs.Common.{◌∙◌, res_binding}
use Rattle.rx_trace.proofs.NamesListed.{none_more, name_there, none_at_end}
use Rattle.rx_trace.proofs.told.res_name.Goals as goal

pub returns-then-named-number : goal.returns-then-named-number
returns-then-named-number c = c.as_str.ensures.value ∙ name_there res_binding c.args.resources.now c.loop-named.named-index c.named-item.result
    c.loop-named-test.true c.named-item.is c.args.number c.loop-named.invariant c.if-named-number.true

pub loop-named-preserved : goal.loop-named-preserved
loop-named-preserved c = none_more res_binding c.args.resources.now c.loop-named.named-index c.named-item.result
    c.loop-named-test.true c.named-item.is c.args.number c.loop-named.invariant c.if-named-number.false

pub returns : goal.returns
returns c = none_at_end res_binding c.args.resources.now c.loop-named.named-index c.args.number c.loop-named.invariant c.loop-named-test.false
