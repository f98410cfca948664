use Rattle.rx_slots.proofs.Standing.{popped, reused_at}
use Rattle.rx_slots.proofs.cells.Cells.reuse.Goals as goal

pub returns-clause-items : goal.returns-clause-items
returns-clause-items g c =
    let i = c.self.inside in
    let parts = popped i.free.items c.pop-slot.new.self.items c.pop-slot.result c.args.slot _ c.pop-slot.ensures.items c.pop-slot.ensures.value i.free.ok.0
    (rw (← c.self.view_is) at c.requires.last) in
    rw (← c.self.view_is)
    (reused_at i.free.items i.numbers.items i.values.items c.self.invariant.0 c.pop-slot.new.self.items c.args.slot parts c.self.invariant.1 c.args.number
    c.args.value)

pub returns-clause-free : goal.returns-clause-free
returns-clause-free g c =
    let i = c.self.inside in
    rw (← c.self.view_is)
    (popped i.free.items c.pop-slot.new.self.items c.pop-slot.result c.args.slot _ c.pop-slot.ensures.items c.pop-slot.ensures.value i.free.ok.0
    (rw (← c.self.view_is) at c.requires.last))
