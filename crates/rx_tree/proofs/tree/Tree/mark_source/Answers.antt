use Rattle.rx_tree.proofs.Common.{find, nodes_of, some_of}
use Rattle.rx_tree.proofs.MarkSteps.{marked_kept, marked_chain, marked_resources}
use Rattle.rx_tree.proofs.tree.Tree.mark_source.Goals as goal
use Rattle.std.proofs.Common.{rules}

pub invariant_of-self : goal.invariant_of-self
invariant_of-self g c =
    let h = some_of (find (nodes_of c.self.inside.store) c.args.key) (rw (← c.self.view_is) at c.requires.«open») in
    marked_kept c.self.inside.store c.open_source.new.self c.args.key h.0 _ c.self.invariant h.1 (c.open_source.ensures h.0 h.1)

pub returns-clause-nodes : goal.returns-clause-nodes
returns-clause-nodes g c node found = search (rules, nodes_of)

pub returns-clause-chain : goal.returns-clause-chain
returns-clause-chain g c = search (rules, some_of, nodes_of, marked_chain)

pub returns-clause-resources : goal.returns-clause-resources
returns-clause-resources g c = search (rules, some_of, nodes_of, marked_resources)
