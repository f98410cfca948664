use Rattle.rx_audit.proofs.Common.{Bool, ◌&&◌, not, sym, ap, ◌∙◌}
use Rattle.rx_register.specs.CallBehind.{takes_waiting}
use Rattle.rx_audit.proofs.TestsToVerdict.{decided}
use Rattle.rx_audit.proofs.verdict.is_allowed.Goals as goal

pub returns-then-is_none-clause-allows : goal.returns-then-is_none-clause-allows
returns-then-is_none-clause-allows c =
    let h = c.args.past.now in
    let e = c.args.event in
    decided h e c.in_ok-why.why _ c.requires.known.lawful c.requires.settled c.in_ok-why.ensures.value
    (c.takes_waiting.ensures ∙ sym (ap (λ (b : Bool). not b && takes_waiting h e) c.if-is_none.ensures))

pub returns-else-is_none-clause-allows : goal.returns-else-is_none-clause-allows
returns-else-is_none-clause-allows c =
    let h = c.args.past.now in
    let e = c.args.event in
    decided h e c.in_ok-why.why _ c.requires.known.lawful c.requires.settled c.in_ok-why.ensures.value
    (c.if-is_none.false ∙ sym (ap (λ (b : Bool). not b && takes_waiting h e) c.if-is_none.ensures))
