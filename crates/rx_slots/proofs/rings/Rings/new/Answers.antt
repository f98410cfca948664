use Rattle.rx_slots.proofs.RingsShowLists.{nothing_tied}
use Rattle.rx_slots.proofs.rings.Rings.new.Goals as goal

pub invariant_of-result : goal.invariant_of-result
invariant_of-result c = rw (c.new.ensures.items, c.new-2.ensures.items) nothing_tied
