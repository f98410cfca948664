use Rattle.rx_tree.proofs.Common.{◌≡◌, Some, option_map, is_some, IsSome, IfSome, sym, ap, ◌∙◌, entry_at, value_at, find, find-value_at, nodes_of, some_of}
use Rattle.rx_tree.proofs.Common.{subst}
use Rattle.rx_tree.proofs.InPlace.{value_at-project, there_project, above_at}
use Rattle.rx_tree.proofs.There.{slot_stands}
use Rattle.rx_tree.proofs.WordsOfNodes.{slot_above}
use Rattle.rx_tree.proofs.tree.Tree.above.Goals as goal

pub at-requires : goal.at-requires
at-requires g c =
    let nodes = nodes_of c.self.inside.store in
    let h = some_of c.args.node.now.node.above c.requires.below in
    let there : IsSome (find nodes h.0) = rw (h.1, ← c.self.view_is) at c.requires.there in
    let slot : c.node.inside.made.slot ≡ h.0.slot = subst (λ o. IfSome o (λ key. c.node.inside.made.slot ≡ key.slot))
    (ap (λ l. l.node.above) c.node.view_is ∙ h.1) (slot_above c.node.inside.made.place c.node.inside.made) in
    record {
      there = there_project (λ l. l.node) c.self.inside.store.nodes c.node.inside.made.slot
          (ap (λ k. is_some (entry_at nodes k)) slot ∙ slot_stands nodes h.0 there);
    }

pub returns-clause-value : goal.returns-clause-value
returns-clause-value g c =
    let nodes = nodes_of c.self.inside.store in
    let h = some_of c.args.node.now.node.above c.requires.below in
    let there : IsSome (find nodes h.0) = rw (h.1, ← c.self.view_is) at c.requires.there in
    let slot : c.node.inside.made.slot ≡ h.0.slot = subst (λ o. IfSome o (λ key. c.node.inside.made.slot ≡ key.slot))
    (ap (λ l. l.node.above) c.node.view_is ∙ h.1) (slot_above c.node.inside.made.place c.node.inside.made) in
    let value : value_at nodes c.node.inside.made.slot ≡ Some c.at.result.now.node =
    value_at-project (λ l. l.node) c.self.inside.store.nodes c.node.inside.made.slot ∙ ap (option_map (λ l. l.node)) c.at.ensures.value in
    rw (h.1, ← c.self.view_is) (find-value_at nodes h.0 there ∙ ap (value_at nodes) (sym slot) ∙ value)

pub returns-clause-above : goal.returns-clause-above
returns-clause-above g c =
    let nodes = nodes_of c.self.inside.store in
    let value : value_at nodes c.node.inside.made.slot ≡ Some c.at.result.now.node =
    value_at-project (λ l. l.node) c.self.inside.store.nodes c.node.inside.made.slot ∙ ap (option_map (λ l. l.node)) c.at.ensures.value in
    rw (← c.self.view_is) (above_at nodes c.self.invariant.tied.sound c.node.inside.made.slot c.at.result.now.node value)
