use Rattle.rx_slots.proofs.Common.{◌≡◌, None, length, ap, sym, arith, get_or_past, Entry, Key, shown, Slots, with_number, placed, entry_at}
use Rattle.rx_slots.proofs.SlotsLemmas.{length-placed, Changes-placed}
use Rattle.rx_slots.proofs.Laws.OthersKept.{KeepsOthers-insert}
use Rattle.rx_slots.proofs.Laws.EntryByNumber.{with_number-same}
use Rattle.rx_slots.proofs.KeptLemmas.{placed_next, placed_within, reused_below, reused_next, kept_reused}
use Rattle.rx_slots.proofs.records.Records.place.Goals as goal
use Rattle.std.proofs.Common.{rules}
use Rattle.std.proofs.lemmas.Grind.{common_steps}

pub returns-in_default-clause-placed : goal.returns-in_default-clause-placed
returns-in_default-clause-placed g c =
    search (rules, length, placed_next, placed)

pub returns-in_default-clause-kept : goal.returns-in_default-clause-kept
returns-in_default-clause-kept g c =
    let cells = c.self.inside.cells in
    let key : Key = record { slot = c.len-slot.result; number = c.args.number } in
    let at = c.len-slot.ensures in
    let free : entry_at c.args.self.now c.len-slot.result ≡ None =
    rw (← c.self.view_is) (get_or_past cells.items c.len-slot.result None (omega (arith, at))) in
    let new : Slots g.row.T.Denot = shown c.push_reserved.new.self.items c.push_reserved.new.self.free c.self.inside.capacity in
    KeepsOthers-insert c.args.self.now new key c.args.value free (Changes-placed c.args.self.now new c.len-slot.result _ (returns-in_default-clause-placed g c))

pub invariant_of-self-2 : goal.invariant_of-self-2
invariant_of-self-2 g c =
    rw (c.reuse.ensures.items, c.reuse.ensures.fit, c.reuse.ensures.free_fit)
    (kept_reused c.self.inside.cells.items c.self.inside.cells.free _ _ _ c.self.invariant c.reuse.new.self.free c.in-Some.slot _ c.reuse.ensures.free)

pub returns-clause-slot : goal.returns-clause-slot
returns-clause-slot g c =
    let e : Entry g.row.T.Denot = record { number = c.args.number; value = c.args.value } in
    rw (← c.self.view_is)
    (sym (reused_next c.self.inside.cells.items c.self.inside.cells.free _ _ _ c.self.invariant c.reuse.new.self.free c.in-Some.slot e c.reuse.ensures.free))

pub returns-clause-below : goal.returns-clause-below
returns-clause-below g c =
    let e : Entry g.row.T.Denot = record { number = c.args.number; value = c.args.value } in
    let below = reused_below c.self.inside.cells.items c.self.inside.cells.free _ _ _ c.self.invariant c.reuse.new.self.free c.in-Some.slot e
    c.reuse.ensures.free in
    let within = c.self.invariant.within in
    let most = c.self.invariant.most in
    omega (arith, below, within, most)

pub returns-clause-placed : goal.returns-clause-placed
returns-clause-placed g c =
    let e : Entry g.row.T.Denot = record { number = c.args.number; value = c.args.value } in
    let below = reused_below c.self.inside.cells.items c.self.inside.cells.free _ _ _ c.self.invariant c.reuse.new.self.free c.in-Some.slot e
    c.reuse.ensures.free in
    rw (← c.self.view_is, c.reuse.ensures.items) (placed_within c.self.inside.cells.items c.in-Some.slot e below)

pub returns-clause-changes : goal.returns-clause-changes
returns-clause-changes g c = Changes-placed c.args.self.now _ c.in-Some.slot _ (returns-clause-placed g c)

pub returns-clause-found : goal.returns-clause-found
returns-clause-found g c =
    search (rules, with_number, returns-clause-changes, with_number-same)

pub returns-clause-slot_count : goal.returns-clause-slot_count
returns-clause-slot_count g c =
    let same = ap length (returns-clause-placed g c) in
    let long = length-placed c.args.self.now.entries c.in-Some.slot (record { number = c.args.number; value = c.args.value }) in
    grind (arith, common_steps, same, long)

pub returns-in_default-clause-slot_count : goal.returns-in_default-clause-slot_count
returns-in_default-clause-slot_count g c = grind (arith, common_steps)

pub returns-in_default-clause-count : goal.returns-in_default-clause-count
returns-in_default-clause-count g c = grind (arith, common_steps)

pub returns-in_default-clause-had_room : goal.returns-in_default-clause-had_room
returns-in_default-clause-had_room g c = grind (arith, common_steps)

pub returns-clause-count : goal.returns-clause-count
returns-clause-count g c = grind (arith, common_steps)

pub returns-clause-had_room : goal.returns-clause-had_room
returns-clause-had_room g c = grind (arith, common_steps)

pub push_reserved-requires : goal.push_reserved-requires
push_reserved-requires g c = grind (arith, common_steps)

pub invariant_of-self : goal.invariant_of-self
invariant_of-self g c = grind (arith, common_steps)

pub returns-in_default-clause-below : goal.returns-in_default-clause-below
returns-in_default-clause-below g c = grind (arith, common_steps)

pub returns-in_default-clause-was_free : goal.returns-in_default-clause-was_free
returns-in_default-clause-was_free g c = grind (arith, common_steps)

pub returns-in_default-clause-changes : goal.returns-in_default-clause-changes
returns-in_default-clause-changes g c = grind (arith, common_steps)

pub returns-in_default-clause-found : goal.returns-in_default-clause-found
returns-in_default-clause-found g c = grind (arith, common_steps)

pub returns-in_default-clause-slot : goal.returns-in_default-clause-slot
returns-in_default-clause-slot g c = grind (arith, common_steps)
