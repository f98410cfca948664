use Rattle.rx_slots.proofs.Common.{◌≡◌, ◌≤◌, ◌-◌, max, length, vec_capacity, Place, link_at}
use Rattle.rx_slots.proofs.links.Links.grow.Given as goal

abbrev pub invariant-loop-self : goal.invariant-loop-self
invariant-loop-self l = ((q : Place) → link_at l.self q ≡ link_at l.initial.self q) × (l.self.ends ≡ l.initial.self.ends) ×
    (length l.initial.self.members.items ≤ length l.self.members.items) ×
    (length l.self.members.items ≤ max l.members (length l.initial.self.members.items)) ×
    (vec_capacity l.self.members ≡ vec_capacity l.initial.self.members)

abbrev pub decreases-loop-self : goal.decreases-loop-self
decreases-loop-self l = l.members - length l.self.members.items
