use Rattle.rx_tree.proofs.Common.{option_map, option_copied, sym, ap, ◌∙◌, nodes_of}
use Rattle.rx_tree.proofs.StoreLemmas.{find-project}
use Rattle.rx_tree.proofs.Laws.Parents.{named_parent}
use Rattle.rx_tree.proofs.tree.Tree.parent.Goals as goal

pub returns-clause-number : goal.returns-clause-number
returns-clause-number g c =
    let s = c.self.inside.store in
    let found = find-project (λ l. l.node) s.nodes c.args.key ∙ ap (option_map (λ l. l.node)) (sym c.get.ensures ∙ ap option_copied c.in_ok-get.was) in
    rw (← c.self.view_is, c.parent.ensures) (named_parent (nodes_of s) c.args.key _ found c.self.invariant.tied.sound)

pub returns-clause-found : goal.returns-clause-found
returns-clause-found g c =
    let s = c.self.inside.store in
    let found = find-project (λ l. l.node) s.nodes c.args.key ∙ ap (option_map (λ l. l.node)) (sym c.get.ensures ∙ ap option_copied c.in_ok-get.was) in
    rw (← c.self.view_is, c.parent.ensures) ((c.self.invariant.tied.sound.placed c.args.key _ found).there)
