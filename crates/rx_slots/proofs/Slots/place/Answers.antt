use Rattle.rx_slots.proofs.Common.{◌≡◌, ◌+◌, ◌≤◌, List, Option, Some, None, ap, set, arith, Entry, Key, Slots, entry_at}
use Rattle.rx_slots.proofs.SlotsLemmas.{Changes-placed}
use Rattle.rx_slots.proofs.Laws.OthersKept.{KeepsOthers-insert}
use Rattle.rx_slots.proofs.KeyedLemmas.{keyed_placed, no_cell}
use Rattle.rx_slots.proofs.Slots.place.Goals as goal
use Rattle.rx_slots.specs.Keyed.{shown_keyed}
use Rattle.slab.specs.Slab.{slab_len}

pub invariant_of-self : goal.invariant_of-self
invariant_of-self g c =
    let keys = c.self.inside.keys in
    let come = c.insert_reserved-slot.ensures in
    let had = rw (← c.self.view_is) at c.requires.room in
    let room : slab_len keys + 1 ≤ keys.capacity = omega (arith, had) in
    rw (c.replace.ensures.after, c.fill.ensures.items, c.fill.ensures.capacity)
    (keyed_placed keys c.self.inside.cells.items _ c.self.invariant c.insert_reserved-slot.new.self c.insert_reserved-slot.result _ _ come.updates come.len room
    come.key_in_range come.capacity)

pub returns-clause-placed : goal.returns-clause-placed
returns-clause-placed g c =
    let e : Entry g.row.T.Denot = record { number = c.args.number; value = c.args.value } in
    rw (← c.self.view_is, c.replace.ensures.after)
    (ap (λ (cells : List (Option (Entry g.row.T.Denot))). set cells c.insert_reserved-slot.result (Some e)) c.fill.ensures.items)

pub returns-clause-changes : goal.returns-clause-changes
returns-clause-changes g c = Changes-placed c.args.self.now _ c.insert_reserved-slot.result _ (returns-clause-placed g c)

pub returns-clause-kept : goal.returns-clause-kept
returns-clause-kept g c =
    let key : Key = record { slot = c.insert_reserved-slot.result; number = c.args.number } in
    let free : entry_at c.args.self.now c.insert_reserved-slot.result ≡ None =
    rw (← c.self.view_is)
    (no_cell c.self.inside.keys c.self.inside.cells.items _ c.self.invariant c.insert_reserved-slot.result c.insert_reserved-slot.ensures.was_vacant) in
    let new : Slots g.row.T.Denot = shown_keyed c.insert_reserved-slot.new.self (set c.fill.new.cells.items c.insert_reserved-slot.result c.replace.new.dest) in
    KeepsOthers-insert c.args.self.now new key c.args.value free (returns-clause-changes g c)
