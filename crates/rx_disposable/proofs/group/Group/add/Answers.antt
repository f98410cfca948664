use Rattle.std.proofs.Common.{refl, arith}
use Rattle.rx_disposable.proofs.Places.{kept_added, entries_added, length-member_entries}
use Rattle.rx_disposable.proofs.Tickets.{lookup_next, updates_added}
use Rattle.rx_disposable.proofs.group.Group.add.Goals as goal

pub invariant_of-self : goal.invariant_of-self
invariant_of-self g c =
    rw (c.in-Ok.ensures.ok, c.new.ensures, c.from-ticket.ensures)
    (kept_added _ _ _ _ c.self.invariant c.args.value _ c.if-self.false (omega (arith, c.if-self-2.false, c.self.ranges)) c.push.ensures.capacity)

pub returns-in-Ok-clause-added : goal.returns-in-Ok-clause-added
returns-in-Ok-clause-added g c =
    rw (c.in-Ok.ensures.ok, c.new.ensures, c.from-ticket.ensures, entries_added _ _ _ _ c.self.invariant c.args.value, ← c.self.view_is) refl

pub returns-in-Err-clause-succeeds_inline : goal.returns-in-Err-clause-succeeds_inline
returns-in-Err-clause-succeeds_inline g c usable left short =
    let few = rw (← c.self.view_is) at short in
    rw c.refuse-in-Err.ensures (c.in-Err.ensures.succeeds (omega (arith, few, c.self.invariant.inline, length-member_entries _ c.self.invariant.filled)))

pub returns-in-Ok-clause-fresh : goal.returns-in-Ok-clause-fresh
returns-in-Ok-clause-fresh g c =
    rw (← c.self.view_is) (lookup_next 0 _ _ c.self.invariant.sound.tickets)

pub returns-in-Ok-clause-updates : goal.returns-in-Ok-clause-updates
returns-in-Ok-clause-updates g c =
    rw (c.in-Ok.ensures.ok, c.new.ensures, c.from-ticket.ensures, entries_added _ _ _ _ c.self.invariant c.args.value, ← c.self.view_is)
    (updates_added _ c.args.value c.self.invariant.sound)
