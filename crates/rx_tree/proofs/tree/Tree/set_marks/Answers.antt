use Rattle.rx_tree.proofs.Common.{◌≡◌, true, Option, None, is_some, true≢false, find, Node}
use Rattle.rx_tree.proofs.Common.{nodes_of, some_of}
use Rattle.rx_tree.proofs.MarkSteps.{marked_kept, marked_open, marked_nodes, marked_due, marked_resources}
use Rattle.rx_tree.proofs.tree.Tree.set_marks.Goals as goal
use Rattle.std.proofs.Common.{rules}

none_of : (o : Option Node) → (is_some o ≡ true → ⊥) → o ≡ None
none_of x0 none = search rules

pub note_due-requires-clause-kept : goal.note_due-requires-clause-kept
note_due-requires-clause-kept g c =
    let h = some_of (find (nodes_of c.self.inside.store) c.args.key) (rw (← c.self.view_is) at (c.contains.ensures.0 c.if-contains.true)) in
    marked_kept c.self.inside.store c.write_marks.new.self c.args.key h.0 c.args.marks c.self.invariant h.1 (c.write_marks.ensures h.0 h.1)

pub note_due-requires-clause-open : goal.note_due-requires-clause-open
note_due-requires-clause-open g c = search (rules, some_of, nodes_of, marked_open)

pub returns-then-contains-clause-nodes : goal.returns-then-contains-clause-nodes
returns-then-contains-clause-nodes g c = search (rules, some_of, nodes_of, marked_nodes)

pub returns-then-contains-clause-chain : goal.returns-then-contains-clause-chain
returns-then-contains-clause-chain g c = search (rules, some_of, nodes_of, marked_due)

pub returns-then-contains-clause-resources : goal.returns-then-contains-clause-resources
returns-then-contains-clause-resources g c = search (rules, some_of, nodes_of, marked_resources)

pub returns-else-contains-clause-nodes : goal.returns-else-contains-clause-nodes
returns-else-contains-clause-nodes g c = search (rules, none_of, true≢false)

pub returns-else-contains-clause-chain : goal.returns-else-contains-clause-chain
returns-else-contains-clause-chain g c = search (rules, none_of, true≢false)
