use Rattle.rx_slots.proofs.Common.{None, refl, set, Slots}
use Rattle.rx_slots.proofs.KeptLemmas.{below_length}
use Rattle.rx_slots.proofs.KeyedLemmas.{keyed_taken, Changes-taken}
use Rattle.rx_slots.proofs.Slots.take_at.Goals as goal
use Rattle.rx_slots.specs.Keyed.{shown_keyed}

pub invariant_of-self : goal.invariant_of-self
invariant_of-self g c =
    let cells = c.self.inside.cells.items in
    let gone = c.remove.ensures in
    rw c.take.ensures.after
    (keyed_taken c.self.inside.keys cells _ c.self.invariant c.remove.new.self c.args.slot gone.updates gone.len gone.capacity
    (below_length cells c.args.slot (rw (← c.self.view_is) at c.requires.there)))

pub returns-clause-changes : goal.returns-clause-changes
returns-clause-changes g c =
    let keys = c.self.inside.keys in
    let cells = c.self.inside.cells.items in
    let new : Slots g.row.T.Denot = shown_keyed c.remove.new.self (set cells c.args.slot None) in
    rw (← c.self.view_is, c.take.ensures.after)
    (Changes-taken (shown_keyed keys cells) new c.args.slot (below_length cells c.args.slot (rw (← c.self.view_is) at c.requires.there)) refl)
