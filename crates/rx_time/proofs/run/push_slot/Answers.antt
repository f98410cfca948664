use Rattle.rx_time.proofs.SlotsInOrder.{AreRunSlots-push, entries-push}
use Rattle.rx_time.proofs.run.push_slot.Goals as goal
use Rattle.std.proofs.Common.{rules}

pub returns-in-Ok-clause-ok : goal.returns-in-Ok-clause-ok
returns-in-Ok-clause-ok g c = search (rules, entries-push)

pub returns-in-Ok-clause-run : goal.returns-in-Ok-clause-run
returns-in-Ok-clause-run g c = rw (c.in-Ok.ensures.items, c.new.ensures) (AreRunSlots-push _ _ _ c.requires.run c.requires.last)
