use Rattle.std.proofs.Common.{arith}
use Rattle.rx_turns.proofs.Deeper.{none_between, none_so_deep}
use Rattle.rx_turns.proofs.agenda.next_deeper.Goals as goal

pub returns-then-deepest-turn-clause-between : goal.returns-then-deepest-turn-clause-between
returns-then-deepest-turn-clause-between c = λ u deep before.
    none_so_deep c.args.deepest c.args.rows.now c.args.turn u c.requires c.if-deepest-turn.true deep

pub returns-clause-between : goal.returns-clause-between
returns-clause-between c =
    none_between c.args.turn c.args.rows.now c.loop-line.found c.loop-line.line c.loop-line.invariant (omega (arith, c.loop-line-test.false))
