use Rattle.std.proofs.Common.{◌≡◌, rules, tests}
use Rattle.rx_event.specs.Totals.{waiting_count}
use Rattle.rx_engine.specs.Settlements.{none_released}
use Rattle.rx_engine.proofs.NothingToDo.{nothing_waits}
use Rattle.rx_engine.proofs.telling.set_free.Goals as goal

pub returns-then-waiting-eq0-clause-releases : goal.returns-then-waiting-eq0-clause-releases
returns-then-waiting-eq0-clause-releases c = none_released

pub returns-then-waiting-eq0-clause-none_waits : goal.returns-then-waiting-eq0-clause-none_waits
returns-then-waiting-eq0-clause-none_waits c =
    let h = c.if-waiting-eq0.true in
    let none : waiting_count c.args.book.now.history ≡ 0 = search (rules, tests) in
    nothing_waits c.args.book.now c.promise.ensures none
