use Rattle.rx_picture.proofs.Common.{Some, sym, arith, parent-lt}
use Rattle.rx_picture.proofs.LevelByParent.{level_top, level_below}
use Rattle.rx_picture.proofs.levels.level_of.Goals as goal
use Rattle.std.proofs.Common.{rules}

pub returns-in-Some-clause-value : goal.returns-in-Some-clause-value
returns-in-Some-clause-value c =
    search (rules, Some, parent-lt, level_below)

pub returns-in-Some-clause-few : goal.returns-in-Some-clause-few
returns-in-Some-clause-few c =
    let less = parent-lt c.args.events.now c.args.n c.in-Some.p (sym c.in-Some.ensures) in
    let few = c.requires.levels.few c.in-Some.p less in
    let is = c.value_at.ensures in
    omega arith

pub returns-in-None-clause-value : goal.returns-in-None-clause-value
returns-in-None-clause-value c = sym (level_top c.args.events.now c.args.n (sym c.in-None.ensures))
