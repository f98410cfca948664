use Rattle.rx_slots.proofs.Common.{sym, ap, ◌∙◌, arith, get_or, alone, End}
use Rattle.rx_slots.proofs.RingsShowLists.{as_member, last_seen}
use Rattle.rx_slots.proofs.rings.Rings.last.Goals as goal

pub returns-in_err-member : goal.returns-in_err-member
returns-in_err-member c =
    let s = c.self.inside.links in
    let end = alone (End c.args.list) in
    let read = c.in_err-member.ensures.lookup.4 (omega arith) end ∙ ap (λ xs. get_or xs c.args.list end) c.deref.ensures.value in
    rw (← c.self.view_is) (c.from_residual.ensures ∙ ap (λ l. as_member l.previous) read
    ∙ last_seen s.ends.items s.members.items 0 c.self.invariant c.args.list)

pub returns-in-Member : goal.returns-in-Member
returns-in-Member c =
    let s = c.self.inside.links in
    let end = alone (End c.args.list) in
    let read = c.in_ok-member.ensures.lookup.3.1 end ∙ ap (λ xs. get_or xs c.args.list end) c.deref.ensures.value in
    rw (← c.self.view_is) (ap as_member (sym c.in-Member.is ∙ ap (λ l. l.previous) read)
    ∙ last_seen s.ends.items s.members.items 0 c.self.invariant c.args.list)

pub returns-in-End : goal.returns-in-End
returns-in-End c =
    let s = c.self.inside.links in
    let end = alone (End c.args.list) in
    let read = c.in_ok-member.ensures.lookup.3.1 end ∙ ap (λ xs. get_or xs c.args.list end) c.deref.ensures.value in
    rw (← c.self.view_is) (ap as_member (sym c.in-End.is ∙ ap (λ l. l.previous) read) ∙ last_seen s.ends.items s.members.items 0 c.self.invariant c.args.list)
