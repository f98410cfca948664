use Rattle.std.proofs.Common.{◌≡◌, length, [], rules, tests}
use Rattle.rx_engine.proofs.NothingToDo.{none_of_length, nothing_spreads, nothing_ready}
use Rattle.rx_engine.proofs.settling.spread.Goals as goal

nothing_left : (c : goal.After-promise) → c.args.parts.now.effects.list ≡ []
nothing_left c =
    let h = c.if-len-gt0.false in
    let none : length c.args.parts.now.effects.list ≡ 0 = search (rules, tests) in
    none_of_length c.args.parts.now.effects.list none

pub returns-else-len-gt0-clause-spreads : goal.returns-else-len-gt0-clause-spreads
returns-else-len-gt0-clause-spreads c =
    nothing_spreads c.args.by c.args.parts.now c.settle-none.new.self (nothing_left c) c.settle-none.ensures.settles

pub returns-else-len-gt0-clause-ready : goal.returns-else-len-gt0-clause-ready
returns-else-len-gt0-clause-ready c =
    nothing_ready c.args.by c.args.parts.now c.settle-none.new.self (nothing_left c) c.settle-none.ensures.settles c.requires
