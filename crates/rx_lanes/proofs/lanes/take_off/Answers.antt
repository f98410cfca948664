use Rattle.std.proofs.Common.{rules, ◌≡◌, true, sym}
use Rattle.rx_slots.specs.Lists.{list_at}
use Rattle.rx_lanes.proofs.NumbersOnLists.{take_out-none}
use Rattle.rx_lanes.proofs.lanes.take_off.Goals as goal

pub returns-else-not-is_free-clause-lists : goal.returns-else-not-is_free-clause-lists
returns-else-not-is_free-clause-lists c = λ e.
    let h = c.if-not-is_free.false in
    let free : c.is_free.result ≡ true = search rules in
    sym (take_out-none c.args.place (list_at c.args.marks.now e) (c.is_free.ensures.free free e))
