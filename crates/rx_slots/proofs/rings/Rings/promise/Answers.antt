use Rattle.rx_slots.proofs.RingsShowLists.{plain}
use Rattle.rx_slots.proofs.rings.Rings.promise.Goals as goal

pub returns : goal.returns
returns c = rw (← c.self.view_is) (plain _ _ _ c.self.invariant)
