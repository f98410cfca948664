use Rattle.std.proofs.Common.{◌≡◌, length, rules, tests}
use Rattle.rx_engine.proofs.NothingToDo.{nothing_ends}
use Rattle.rx_engine.proofs.settling.close_nodes.Goals as goal

pub returns-else-closed_count-gt0-clause-ends : goal.returns-else-closed_count-gt0-clause-ends
returns-else-closed_count-gt0-clause-ends c =
    let h = c.if-closed_count-gt0.false in
    let none : length c.args.book.now.closed ≡ 0 = search (rules, tests) in
    nothing_ends c.args.by c.args.book.now c.args.parts.now none
