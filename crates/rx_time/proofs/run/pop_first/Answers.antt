use Rattle.rx_time.proofs.SlotsInOrder.{first_work, first_left, pairs_behind}
use Rattle.rx_time.proofs.run.pop_first.Goals as goal
use Rattle.std.proofs.Common.{rules}

pub returns-in-Some-clause-value : goal.returns-in-Some-clause-value
returns-in-Some-clause-value g c =
    search (rules, first_work)

pub returns-in-Some-clause-others : goal.returns-in-Some-clause-others
returns-in-Some-clause-others g c = first_left c.args.slots.now.items c.pop_front.new.self.items c.in-Some.slot c.in-Some.ensures.items

pub returns-in-Some-clause-in_order : goal.returns-in-Some-clause-in_order
returns-in-Some-clause-in_order g c = pairs_behind c.args.slots.now.items c.pop_front.new.self.items c.in-Some.slot c.in-Some.ensures.items
