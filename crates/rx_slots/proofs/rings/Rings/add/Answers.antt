use Rattle.std.proofs.Common.{◌≡◌, length, ◌∙◌}
use Rattle.rx_slots.proofs.RingSteps.{tied_end, lists_end}
use Rattle.rx_slots.proofs.rings.Rings.add.Goals as goal

pub invariant_of-self : goal.invariant_of-self
invariant_of-self c =
    let s = c.self.inside.links in
    let count : c.len-end.result ≡ length s.ends.items = c.len-end.ensures ∙ s.ends.ok.0 in
    rw (c.push_reserved.ensures.items, c.alone.ensures, count) (tied_end s.ends.items s.members.items 0 c.self.invariant)

pub returns-clause-lists : goal.returns-clause-lists
returns-clause-lists c =
    let s = c.self.inside.links in
    let count : c.len-end.result ≡ length s.ends.items = c.len-end.ensures ∙ s.ends.ok.0 in
    rw (← c.self.view_is, c.push_reserved.ensures.items, c.alone.ensures, count) (lists_end s.ends.items s.members.items 0 c.self.invariant)
