use Rattle.rx_tree.proofs.Common.{false, ◌==◌, ◌<◌, cond, sym, ap, subst, ◌∙◌, arith, Stored, alone, project, resources_of, held_count_at, one_more, Inserts}
use Rattle.rx_tree.proofs.StoreLemmas.{inserts-project, part-added, resources_keep_links}
use Rattle.rx_tree.proofs.CountSteps.{count_fits, counted_came}
use Rattle.rx_tree.proofs.store.Store.add_resource.Goals as goal

pub overflow_add-count : goal.overflow_add-count
overflow_add-count g c = let e = c.in-Ok.ensures in let a = c.args.self.now in let b = record c.args.self.now { resources = c.insert.new.self } in let
    came = inserts-project (λ r. r.stowed) _ (record { stowed = c.args.stowed; link = c.alone-link.result }) e.numbered e.was_free e.changes e.found
    e.kept e.count in let few = count_fits a b c.requires.counted _ _ _ came c.requires.owned c.requires.free in let count = ap (λ n. n.free)
    c.held_count-count.ensures in let slots = c.slot_count-slots.ensures.value in let fits = c.slot_count-slots.ensures.most in omega (
      arith,
      few,
      count,
      slots,
      fits,
    )

pub returns-in-Ok-clause-ok : goal.returns-in-Ok-clause-ok
returns-in-Ok-clause-ok g c =
    let e = c.in-Ok.ensures in
    subst (λ r. Inserts (resources_of c.args.self.now) (project (λ r. r.stowed) r) c.in-Ok.key c.args.number c.args.stowed)
    (sym c.set_held_count.ensures.resources) (inserts-project (λ r. r.stowed) c.args.number
    (record { stowed = c.args.stowed; link = c.alone-link.result }) e.numbered e.was_free e.changes e.found e.kept e.count)

pub returns-in-Ok-clause-links : goal.returns-in-Ok-clause-links
returns-in-Ok-clause-links g c p = c.set_held_count.ensures.links p ∙ resources_keep_links c.args.self.now c.insert.new.self
    (part-added (λ r. r.link) (λ j. alone (Stored j)) _ _ c.in-Ok.key.slot c.args.number (record { stowed = c.args.stowed; link = c.alone-link.result })
    c.in-Ok.ensures.was_free c.in-Ok.ensures.changes
    (c.alone-link.ensures (subst (λ n. n < 536870912) (c.in-Ok.ensures.slot ∙ sym c.next_slot.ensures.value) c.in-Ok.ensures.below) ∙
    ap (λ s. alone (Stored s)) (c.next_slot.ensures.value ∙ sym c.in-Ok.ensures.slot))) p

pub returns-in-Ok-clause-counted : goal.returns-in-Ok-clause-counted
returns-in-Ok-clause-counted g c =
    let e = c.in-Ok.ensures in
    let h = c.set_held_count.ensures in
    let a = c.args.self.now in
    let home = c.args.stowed.node.slot in
    let came = subst (λ r. Inserts (resources_of c.args.self.now) (project (λ r. r.stowed) r) c.in-Ok.key c.args.number c.args.stowed)
    (sym h.resources) (inserts-project (λ r. r.stowed) c.args.number
    (record { stowed = c.args.stowed; link = c.alone-link.result }) e.numbered e.was_free e.changes e.found e.kept e.count) in
    counted_came a c.set_held_count.new.self c.requires.counted c.in-Ok.key c.args.number c.args.stowed came c.requires.owned c.requires.free h.nodes h.waiting
    (λ j. h.held j ∙ ap (λ n. cond (home == j) (one_more false n) (held_count_at a j)) c.held_count-count.ensures) h.owed
