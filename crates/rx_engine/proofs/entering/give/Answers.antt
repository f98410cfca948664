use Rattle.std.proofs.Common.{Bool, sym, subst}
use Rattle.rx_engine.specs.Openings.{Gives}
use Rattle.rx_engine.proofs.LanesGiven.{gives_none}
use Rattle.rx_engine.proofs.entering.give.Goals as goal

pub returns-else-is-clause-gives : goal.returns-else-is-clause-gives
returns-else-is-clause-gives c =
    subst (λ (b : Bool). Gives b c.args.number c.args.word c.args.at c.args.roles.now.list c.args.roles.now.list c.args.lanes.now c.args.lanes.now)
    (sym c.if-is.false)
    (gives_none c.args.number c.args.word c.args.at c.args.roles.now.list c.args.lanes.now)
