use Rattle.std.proofs.Common.{ap, rules}
use Rattle.rx_time.specs.Runs.{slot_entries}
use Rattle.rx_time.proofs.SlotsInOrder.{pairs_held}
use Rattle.rx_time.proofs.run.take_slot.Goals as goal

pub returns-clause-others : goal.returns-clause-others
returns-clause-others g c = λ d. ap slot_entries (c.empty_at.ensures.others d)

pub returns-clause-in_order : goal.returns-clause-in_order
returns-clause-in_order g c pairs =
    search (rules, pairs_held)
