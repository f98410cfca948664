use Rattle.rx_tree.proofs.Common.{option_map, ap, ◌∙◌, nodes_of}
use Rattle.rx_tree.proofs.InPlace.{value_at-project, there_project, above_at}
use Rattle.rx_tree.proofs.tree.Tree.at.Goals as goal

pub at-requires : goal.at-requires
at-requires g c = record { there = there_project (λ l. l.node) c.self.inside.store.nodes c.args.slot (rw (← c.self.view_is) at c.requires.there) }

pub returns-clause-value : goal.returns-clause-value
returns-clause-value g c = rw (← c.self.view_is)
    (value_at-project (λ l. l.node) c.self.inside.store.nodes c.args.slot ∙ ap (option_map (λ l. l.node)) c.at.ensures.value)

pub returns-clause-above : goal.returns-clause-above
returns-clause-above g c = rw (← c.self.view_is) (above_at (nodes_of c.self.inside.store) c.self.invariant.tied.sound c.args.slot c.at.result.now.node
    (value_at-project (λ l. l.node) c.self.inside.store.nodes c.args.slot ∙ ap (option_map (λ l. l.node)) c.at.ensures.value))
