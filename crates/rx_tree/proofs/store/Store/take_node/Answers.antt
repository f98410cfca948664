use Rattle.rx_tree.proofs.Common.{◌≡◌, ◌+◌, ◌-◌, Bool, true, false, refl, arith, Counts, count_if}
use Rattle.rx_tree.proofs.InPlace.{seen_at}
use Rattle.rx_tree.proofs.StoreLemmas.{takes-project, changes-project, part-taken, part-gone, links_taken}
use Rattle.rx_tree.proofs.CountSteps.{out_fits, some_owed, counted_gone}
use Rattle.rx_tree.proofs.MarksWritten.{found_in, slot_there, record_found}
use Rattle.rx_tree.proofs.store.Store.take_node.Goals as goal
use Rattle.std.proofs.Common.{rules}

pub at-leaf-requires : goal.at-leaf-requires
at-leaf-requires g c = record { there = slot_there c.args.self.now c.args.key c.requires.«open» }

pub remove-requires : goal.remove-requires
remove-requires g c = record { found = found_in c.args.self.now c.args.key c.requires.«open» }

pub returns-clause-taken : goal.returns-clause-taken
returns-clause-taken g c = search (rules, takes-project)

pub returns-clause-links : goal.returns-clause-links
returns-clause-links g c = search (rules, links_taken, part-taken, part-gone)

pub overflow_add-self : goal.overflow_add-self
overflow_add-self g c =
    let a = c.args.self.now in
    let b = record a { nodes = c.remove.new.self } in
    let found = record_found a c.args.key c.requires.«open» _ (seen_at c.at-leaf.ensures.value c.leaf.view_is) in
    let few = out_fits a b c.requires.counted _ _ found (changes-project (λ l. l.node) _ _ _ _ c.remove.ensures.changes) false in
    let slots = c.slot_count-slots.ensures.value in
    let fits = c.slot_count-slots.ensures.most in omega (arith, few, slots, fits)

pub overflow_add-self-2 : goal.overflow_add-self-2
overflow_add-self-2 g c =
    let a = c.args.self.now in
    let b = record a { nodes = c.remove.new.self } in
    let found = record_found a c.args.key c.requires.«open» _ (seen_at c.at-leaf.ensures.value c.leaf.view_is) in
    let few = out_fits a b c.requires.counted _ _ found (changes-project (λ l. l.node) _ _ _ _ c.remove.ensures.changes) true in
    let slots = c.slot_count-slots.ensures.value in
    let fits = c.slot_count-slots.ensures.most in omega (arith, few, slots, fits)

pub overflow_sub-self : goal.overflow_sub-self
overflow_sub-self g c = rw c.owed-owed.ensures
    (let a = c.args.self.now in
    let b = record a { nodes = c.remove.new.self } in
    let found = record_found a c.args.key c.requires.«open» _ (seen_at c.at-leaf.ensures.value c.leaf.view_is) in
    some_owed a b c.requires.counted _ _ found (changes-project (λ l. l.node) _ _ _ _ c.remove.ensures.changes))

pub returns-clause-counted : goal.returns-clause-counted
returns-clause-counted g c = rw c.owed-owed.ensures
    (let a = c.args.self.now in
    let waiting = a.waiting_count in
    let leaf = c.leaf.inside in
    let more : Counts = record { free = waiting.free + leaf.held_count.free; lent = waiting.lent + leaf.held_count.lent } in
    let both : (l : Bool) → count_if l more ≡ count_if l waiting + count_if l leaf.held_count =
    λ l. elim l as (λ l. count_if l more ≡ count_if l waiting + count_if l leaf.held_count) [ true ↦ refl | false ↦ refl ] in
    let b = record a { nodes = c.remove.new.self; waiting_count = more; owed = a.owed - leaf.marks.owed } in
    let found = record_found a c.args.key c.requires.«open» _ (seen_at c.at-leaf.ensures.value c.leaf.view_is) in
    counted_gone a b c.requires.counted c.args.key _ found
    (changes-project (λ l. l.node) _ _ c.args.key.slot _ c.remove.ensures.changes) refl both c.remove.ensures.changes refl)
