use Rattle.std.proofs.Common.{◌<◌, All, ◌∙◌, rules}
use Rattle.rx_time.proofs.Entries.{insert_entry-last, lookup-nat_cmp, lookup-past}
use Rattle.rx_time.proofs.AgendaMatchesEntries.{IsKept-push, IsKept-undone}
use Rattle.rx_time.proofs.priority_queue.PriorityQueue.insert.Goals as goal

pub invariant_of-self-in-Ok-None : goal.invariant_of-self-in-Ok-None
invariant_of-self-in-Ok-None g c = let es = c.self.inside.entries.entries in let above : All (λ e. e.0 < c.args.ticket) es = rw (← c.self.view_is) at
    c.requires in let last = c.in-Ok-None.ensures.entries ∙ insert_entry-last es _ _ above in rw last (IsKept-push es _ _ _ _ c.self.invariant above
    c.in-Ok.ensures.updates)

pub unreachable-requires : goal.unreachable-requires
unreachable-requires g c = let es = c.self.inside.entries.entries in let above : All (λ e. e.0 < c.args.ticket) es = rw (← c.self.view_is) at
    c.requires in let fresh = lookup-nat_cmp _ es ∙ lookup-past es _ above in let old = c.in-Ok-Some.ensures.old ∙ fresh in cc

pub invariant_of-self-in-Err : goal.invariant_of-self-in-Err
invariant_of-self-in-Err g c = let es = c.self.inside.entries.entries in let above : All (λ e. e.0 < c.args.ticket) es = rw (← c.self.view_is) at
    c.requires in rw c.in-Err.ensures.err (IsKept-undone es _ _ _ _ _ c.self.invariant above c.in-Ok.ensures.updates c.remove.ensures.updates)

pub returns-in-Ok-None-clause-ok : goal.returns-in-Ok-None-clause-ok
returns-in-Ok-None-clause-ok g c =
    search (rules, All, insert_entry-last)
