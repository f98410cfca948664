use Rattle.rx_slots.proofs.Common.{IsSome, entry_at, arith}
use Rattle.rx_slots.proofs.KeptLemmas.{kept_taken, last_or-push}
use Rattle.rx_slots.proofs.Laws.EntryByNumber.{found_there}
use Rattle.rx_slots.proofs.records.Records.remove.Goals as goal
use Rattle.std.proofs.lemmas.Grind.{common_steps}

pub invariant_of-self : goal.invariant_of-self
invariant_of-self g c =
    let there : IsSome (entry_at c.args.self.now c.args.key.slot) = found_there c.args.self.now c.args.key c.requires.found in
    rw c.remove.ensures
    (kept_taken c.self.inside.cells.items c.self.inside.cells.free _ _ _ c.self.invariant c.args.key.slot (rw (← c.self.view_is) at there))

pub returns-clause-next_slot : goal.returns-clause-next_slot
returns-clause-next_slot g c = rw c.remove.ensures (last_or-push _ c.self.inside.cells.free c.args.key.slot)

pub returns-clause-slot_count : goal.returns-clause-slot_count
returns-clause-slot_count g c = grind (arith, common_steps)

pub returns-clause-count : goal.returns-clause-count
returns-clause-count g c = grind (arith, common_steps)

pub returns-clause-room : goal.returns-clause-room
returns-clause-room g c = grind (arith, common_steps)

pub returns-clause-changes : goal.returns-clause-changes
returns-clause-changes g c = grind (arith, common_steps)
