use Rattle.std.proofs.Common.{◌-◌, sym, ◌∙◌, arith}
use Rattle.rx_turns.proofs.Lines.{line_is, line_none, lower_line}
use Rattle.rx_turns.proofs.agenda.own_line.Goals as goal

pub returns-then-is_of-clause-line : goal.returns-then-is_of-clause-line
returns-then-is_of-clause-line c =
    let test = c.loop-line-test.true in
    let within = c.loop-line.invariant.0 in
    sym (line_is c.args.turn c.args.rows.now (c.loop-line.line - 1) (omega (arith, test, within)) c.requires (sym c.is_of.ensures ∙ c.if-is_of.true))

pub loop-line-init : goal.loop-line-init
loop-line-init c = (omega arith, λ k from within. absurd (omega (arith, from, within)))

pub loop-line-preserved : goal.loop-line-preserved
loop-line-preserved c =
    let test = c.loop-line-test.true in
    let within = c.loop-line.invariant.0 in (
      omega (arith, test, within),
      lower_line c.args.turn c.args.rows.now c.loop-line.line test c.loop-line.invariant.1 (sym c.is_of.ensures ∙ c.if-is_of.false),
    )

pub returns-clause-line : goal.returns-clause-line
returns-clause-line c =
    let test = c.loop-line-test.false in
    sym (line_none c.args.turn c.args.rows.now (λ k within. c.loop-line.invariant.1 k (omega (arith, test)) within))
