use Rattle.rx_time.proofs.Entries.{remove_entry-absent}
use Rattle.rx_time.proofs.SlotsInOrder.{lookup-absent, lookup_held, removed_held}
use Rattle.rx_time.proofs.run.Run.remove.Goals as goal
use Rattle.std.proofs.Common.{rules}

pub returns-in-Some-clause-value : goal.returns-in-Some-clause-value
returns-in-Some-clause-value g c = rw (← c.self.view_is) (lookup_held _ _ _ _ c.self.invariant.in_order c.in-Some.ensures.found
    c.in-Some.ensures.has_ticket c.take_at-taken.ensures.value)

pub returns-in-Some-clause-others : goal.returns-in-Some-clause-others
returns-in-Some-clause-others g c =
    rw (← c.self.view_is) (removed_held c.self.inside.slots.items c.take_at-taken.new.slots.items c.args.ticket c.in-Some.place
    c.self.invariant.in_order c.in-Some.ensures.found c.in-Some.ensures.has_ticket c.take_at-taken.ensures.others)

pub returns-in-None-clause-value : goal.returns-in-None-clause-value
returns-in-None-clause-value g c =
    search (rules, lookup-absent)

pub returns-in-None-clause-others : goal.returns-in-None-clause-others
returns-in-None-clause-others g c =
    search (rules, remove_entry-absent, lookup-absent)
