use Rattle.rx_tree.proofs.Common.{◌∙◌, find, nodes_of, some_of}
use Rattle.rx_tree.proofs.MarkSteps.{marked_kept, marked_open, marked_nodes, marked_due, marked_resources}
use Rattle.rx_tree.proofs.tree.Tree.mark_decline.Goals as goal
use Rattle.std.proofs.Common.{rules}

pub note_due-requires-clause-kept : goal.note_due-requires-clause-kept
note_due-requires-clause-kept g c =
    let h = some_of (find (nodes_of c.self.inside.store) c.args.key) (rw (← c.self.view_is) at c.requires.«open») in
    marked_kept c.self.inside.store c.decline.new.self c.args.key h.0 _ c.self.invariant h.1 (c.decline.ensures h.0 h.1)

pub note_due-requires-clause-open : goal.note_due-requires-clause-open
note_due-requires-clause-open g c =
    let h = some_of (find (nodes_of c.self.inside.store) c.args.key) (rw (← c.self.view_is) at c.requires.«open») in
    marked_open c.self.inside.store c.decline.new.self c.args.key h.0 _ c.self.invariant h.1 (c.decline.ensures h.0 h.1)

pub returns-clause-nodes : goal.returns-clause-nodes
returns-clause-nodes g c node found = search (rules, nodes_of, marked_nodes)

pub returns-clause-chain : goal.returns-clause-chain
returns-clause-chain g c =
    let h = some_of (find (nodes_of c.self.inside.store) c.args.key) (rw (← c.self.view_is) at c.requires.«open») in
    rw (← c.self.view_is) (marked_due c.self.inside.store c.decline.new.self c.args.key h.0 _ c.self.invariant h.1 (c.decline.ensures h.0 h.1)
    c.note_due.new.self c.note_due.ensures.rest c.note_due.ensures.chain)

pub returns-clause-resources : goal.returns-clause-resources
returns-clause-resources g c =
    let h = some_of (find (nodes_of c.self.inside.store) c.args.key) (rw (← c.self.view_is) at c.requires.«open») in
    rw (← c.self.view_is) (c.note_due.ensures.rest.resources ∙ marked_resources c.self.inside.store c.decline.new.self c.args.key h.0 _ c.self.invariant
    h.1 (c.decline.ensures h.0 h.1))
