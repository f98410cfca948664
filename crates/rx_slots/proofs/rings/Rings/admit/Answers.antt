use Rattle.rx_slots.proofs.Common.{◌≡◌, ◌≤◌, List, length, vec_capacity, sym, ap, subst, ◌∙◌, Link, Place, link_in, IsTiedIn}
use Rattle.rx_slots.proofs.RingSteps.{tied_more, lists_more}
use Rattle.rx_slots.proofs.rings.Rings.admit.Goals as goal
use Rattle.std.proofs.Common.{rules}

-- with other links that are the same for each place
moved : {ends : List Link} (members ends' members' : List Link) (reserved : List Link) → ends' ≡ ends → reserved ≡ members →
    ((p : Place) → link_in ends' members' p ≡ link_in ends reserved p) → (p : Place) → link_in ends members' p ≡ link_in ends members p
moved {ends} members ends' members' reserved a b same p = ap (λ xs. link_in xs members' p) (sym a) ∙ same p ∙ ap (λ xs. link_in ends xs p) b

pub invariant_of-self-2 : goal.invariant_of-self-2
invariant_of-self-2 c =
    let s = c.self.inside.links in
    let ends = ap (λ v. v.items) c.grow.ensures.ends in
    let more : length s.members.items ≤ length c.grow.new.self.members.items =
    subst (λ (xs : List Link). length xs ≤ length c.grow.new.self.members.items) c.reserve.ensures.items c.grow.ensures.more in
    subst (λ (xs : List Link). IsTiedIn xs c.grow.new.self.members.items) (sym ends)
    (tied_more s.ends.items s.members.items 0 c.self.invariant c.grow.new.self.members.items
    (moved s.members.items c.grow.new.self.ends.items c.grow.new.self.members.items c.reserve.new.self.items ends c.reserve.ensures.items
    c.grow.ensures.links) more)

pub returns-clause-kept : goal.returns-clause-kept
returns-clause-kept c =
    let s = c.self.inside.links in
    let ends = ap (λ v. v.items) c.grow.ensures.ends in
    let more : length s.members.items ≤ length c.grow.new.self.members.items =
    subst (λ (xs : List Link). length xs ≤ length c.grow.new.self.members.items) c.reserve.ensures.items c.grow.ensures.more in
    let lists = lists_more s.ends.items s.members.items 0 c.self.invariant c.grow.new.self.members.items
    (moved s.members.items c.grow.new.self.ends.items c.grow.new.self.members.items c.reserve.new.self.items ends c.reserve.ensures.items
    c.grow.ensures.links) more in
    search (rules, vec_capacity, length)
