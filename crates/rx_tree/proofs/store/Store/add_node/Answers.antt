use Rattle.rx_tree.proofs.Common.{refl, sym, ap, ◌∙◌, Children, Held, Sibling, Noted, Node, alone, no_counts, is_some}
use Rattle.rx_tree.proofs.StoreLemmas.{inserts-project, part-added, nodes_keep_links}
use Rattle.rx_tree.proofs.SlotsFit.{home_fits}
use Rattle.rx_tree.proofs.CountSteps.{counted_kept, found_before, owed_opened}
use Rattle.rx_tree.proofs.store.Store.add_node.Goals as goal

pub returns-in-Ok-clause-ok : goal.returns-in-Ok-clause-ok
returns-in-Ok-clause-ok g c = let e = c.in-Ok.ensures in rw c.alone-linked.ensures.node at (inserts-project (λ l. l.node) _ _ e.numbered e.was_free
    e.changes e.found e.kept e.count)

pub returns-in-Ok-clause-links : goal.returns-in-Ok-clause-links
returns-in-Ok-clause-links g c =
    let e = c.in-Ok.ensures in
    let slots = c.capacity-slots.ensures in
    let home = c.next_slot.ensures.value ∙ sym e.slot in
    let fits = home_fits c.insert.new.self c.in-Ok.key (ap is_some e.found) slots.within slots.value slots.most home in
    nodes_keep_links c.args.self.now c.insert.new.self
    (part-added (λ l. l.children) (λ j. alone (Children j)) _ _ c.in-Ok.key.slot c.args.number c.alone-linked.result e.was_free e.changes
    (c.alone-linked.ensures.children fits ∙ ap (λ s. alone (Children s)) home))
    (part-added (λ l. l.held) (λ j. alone (Held j)) _ _ c.in-Ok.key.slot c.args.number c.alone-linked.result e.was_free e.changes
    (c.alone-linked.ensures.held fits ∙ ap (λ s. alone (Held s)) home))
    (part-added (λ l. l.sibling) (λ j. alone (Sibling j)) _ _ c.in-Ok.key.slot c.args.number c.alone-linked.result e.was_free e.changes
    (c.alone-linked.ensures.sibling fits ∙ ap (λ s. alone (Sibling s)) home))
    (part-added (λ l. l.noted) (λ j. alone (Noted j)) _ _ c.in-Ok.key.slot c.args.number c.alone-linked.result e.was_free e.changes
    (c.alone-linked.ensures.noted fits ∙ ap (λ s. alone (Noted s)) home))

pub returns-in-Ok-clause-counted : goal.returns-in-Ok-clause-counted
returns-in-Ok-clause-counted g c = let a = c.args.self.now in let b = record c.args.self.now { nodes = c.insert.new.self } in let e = c.in-Ok.ensures
    in let came = inserts-project (λ l. l.node) _ _ e.numbered e.was_free e.changes e.found e.kept e.count in counted_kept a b c.requires.counted refl
    (part-added (λ l. l.held_count) (λ j. no_counts) _ _ _ _ _ e.was_free e.changes c.alone-linked.ensures.held_count) refl (found_before a b _ _ _
    came c.requires.homes) (c.requires.counted.owed ∙ sym (owed_opened a b _ _ _ came (ap (λ (n : Node). n.marks.owed) c.alone-linked.ensures.node ∙
    c.requires.owes_nothing)))
