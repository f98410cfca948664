use Rattle.rx_slots.proofs.Common.{◌≡◌, ◌∙◌, ◌+◌, length, length-set}
use Rattle.rx_slots.specs.Kept.{first_place}
use Rattle.rx_slots.proofs.Standing.{removed_told}
use Rattle.rx_slots.proofs.cells.Cells.remove.Goals as goal

pub invariant_of-self : goal.invariant_of-self
invariant_of-self g c =
    let i = c.self.inside in
    let place : c.len.result ≡ length i.free.items = c.len.ensures ∙ i.free.ok.0 in
    rw (c.push_reserved.ensures.items, place) (
      length-set i.numbers.items c.args.slot (length i.free.items + first_place) ∙ c.self.invariant.0,
      removed_told i.free.items i.numbers.items i.values.items c.self.invariant.0 c.args.slot c.self.invariant.1 (rw (← c.self.view_is) at c.requires.there),
    )
