use Rattle.rx_tree.proofs.Common.{option_map, option_copied, sym, ap, ◌∙◌, nodes_of}
use Rattle.rx_tree.proofs.InPlace.{above_found}
use Rattle.rx_tree.proofs.StoreLemmas.{find-project}
use Rattle.rx_tree.proofs.tree.Tree.get.Goals as goal
use Rattle.std.proofs.Common.{rules}

pub returns-clause-value : goal.returns-clause-value
returns-clause-value g c = search (rules, find-project)

pub returns-clause-above : goal.returns-clause-above
returns-clause-above g c = rw (← c.self.view_is)
    (above_found (nodes_of c.self.inside.store) c.self.invariant.tied.sound c.args.key (option_copied c.get.result)
    (ap (option_map (λ l. l.node)) c.get.ensures ∙ sym (find-project (λ l. l.node) c.self.inside.store.nodes c.args.key)))
