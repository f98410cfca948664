use Rattle.rx_slots.proofs.Common.{None, get_or, refl, entry_of}
use Rattle.rx_slots.proofs.KeptLemmas.{kept_changed}
use Rattle.rx_slots.proofs.records.Records.at_mut.Goals as goal

pub invariant_of-self-lent : goal.invariant_of-self-lent
invariant_of-self-lent g c w =
    let cells = c.self.inside.cells.items in
    let there = rw (← c.self.view_is) at c.requires.there in
    kept_changed cells c.self.inside.cells.free _ _ _ c.self.invariant c.args.slot (get_or cells c.args.slot None) (λ e. entry_of e.number w) refl there
