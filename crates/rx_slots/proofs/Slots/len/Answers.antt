use Rattle.rx_slots.proofs.Common.{◌∙◌}
use Rattle.rx_slots.proofs.KeyedLemmas.{keyed_count}
use Rattle.rx_slots.proofs.Slots.len.Goals as goal

pub returns-clause-counted : goal.returns-clause-counted
returns-clause-counted g c = rw (← c.self.view_is) (c.len.ensures ∙ keyed_count c.self.inside.keys c.self.inside.cells.items _ c.self.invariant)
