use Rattle.std.proofs.Common.{sym, ◌∙◌}
use Rattle.rx_time.proofs.Entries.{lookup-nat_cmp, remove_entry-nat_cmp}
use Rattle.rx_time.proofs.AgendaMatchesEntries.{IsKept-without}
use Rattle.rx_time.proofs.priority_queue.PriorityQueue.remove.Goals as goal

pub invariant_of-self : goal.invariant_of-self
invariant_of-self g c = let es = c.self.inside.entries.entries in let others = c.in-Some.ensures.entries ∙ remove_entry-nat_cmp _ es in let found =
    sym (lookup-nat_cmp _ es) ∙ sym c.in-Some.ensures.value in rw others (IsKept-without es _ _ _ _ c.self.invariant found
    c.remove-in-Some.ensures.updates)
