use Rattle.rx_slots.proofs.Common.{ℕ, ◌≡◌, ◌<◌, false, length, sym, subst, Lists, list_at, is_in}
use Rattle.rx_slots.proofs.RingsShowLists.{of_lt, last_there, within_ends}
use Rattle.rx_slots.proofs.RingSteps.{tied_joined, lists_joined}
use Rattle.rx_slots.proofs.rings.Rings.join.Goals as goal
use Rattle.std.proofs.Common.{rules}

pub join-requires-clause-end : goal.join-requires-clause-end
join-requires-clause-end c = let s = c.self.inside.links in
    of_lt c.args.list (length s.ends.items)
    (within_ends s.ends.items s.members.items 0 c.args.list (subst (λ (v : Lists). c.args.list < length v.lists) (sym c.self.view_is) c.requires.list))

pub join-requires-clause-last : goal.join-requires-clause-last
join-requires-clause-last c = let s = c.self.inside.links in
    last_there s.ends.items s.members.items 0 c.self.invariant c.args.list
    (within_ends s.ends.items s.members.items 0 c.args.list (subst (λ (v : Lists). c.args.list < length v.lists) (sym c.self.view_is) c.requires.list))

pub invariant_of-self : goal.invariant_of-self
invariant_of-self c = let s = c.self.inside.links in let t = c.join.new.self in
    tied_joined s.ends.items s.members.items t.ends.items t.members.items c.join.ensures.rest.ends c.join.ensures.rest.members c.self.invariant
    0 0 c.args.list c.args.member c.join.ensures.joins
    (within_ends s.ends.items s.members.items 0 c.args.list (subst (λ (v : Lists). c.args.list < length v.lists) (sym c.self.view_is) c.requires.list))
    (subst (λ (v : Lists). c.args.member < v.members) (sym c.self.view_is) c.requires.member)
    (subst (λ (v : Lists). (k : ℕ) → is_in c.args.member (list_at v k) ≡ false) (sym c.self.view_is) c.requires.free)

pub returns-clause-lists : goal.returns-clause-lists
returns-clause-lists c = let s = c.self.inside.links in let t = c.join.new.self in rw (← c.self.view_is)
    (lists_joined s.ends.items s.members.items t.ends.items t.members.items c.join.ensures.rest.ends c.join.ensures.rest.members c.self.invariant
    0 0 c.args.list c.args.member c.join.ensures.joins
    (within_ends s.ends.items s.members.items 0 c.args.list (subst (λ (v : Lists). c.args.list < length v.lists) (sym c.self.view_is) c.requires.list))
    (subst (λ (v : Lists). c.args.member < v.members) (sym c.self.view_is) c.requires.member)
    (subst (λ (v : Lists). (k : ℕ) → is_in c.args.member (list_at v k) ≡ false) (sym c.self.view_is) c.requires.free))

pub returns-clause-room : goal.returns-clause-room
returns-clause-room c = search rules
