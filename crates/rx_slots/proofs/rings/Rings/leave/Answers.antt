use Rattle.rx_slots.proofs.RingsShowLists.{next_there, previous_there}
use Rattle.rx_slots.proofs.RingSteps.{tied_left, lists_left}
use Rattle.rx_slots.proofs.rings.Rings.leave.Goals as goal
use Rattle.std.proofs.Common.{rules}

pub leave-requires-clause-before : goal.leave-requires-clause-before
leave-requires-clause-before c = search (rules, previous_there)

pub leave-requires-clause-after : goal.leave-requires-clause-after
leave-requires-clause-after c = search (rules, next_there)

pub invariant_of-self : goal.invariant_of-self
invariant_of-self c = let s = c.self.inside.links in let t = c.leave.new.self in
    tied_left s.ends.items s.members.items t.ends.items t.members.items c.leave.ensures.rest.ends c.leave.ensures.rest.members c.self.invariant
    0 0 c.args.member c.leave.ensures.leaves

pub returns-clause-lists : goal.returns-clause-lists
returns-clause-lists c = let s = c.self.inside.links in let t = c.leave.new.self in rw (← c.self.view_is)
    (lists_left s.ends.items s.members.items t.ends.items t.members.items c.leave.ensures.rest.ends c.leave.ensures.rest.members c.self.invariant
    0 0 c.args.member c.leave.ensures.leaves)

pub returns-clause-room : goal.returns-clause-room
returns-clause-room c = search rules
