-- The lines of the nodes so far.
use Rattle.rx_script.proofs.Common.{◌≡◌, ◌++◌, List, take, map, string_bytes, Event, node_lines, node_binding, IsWhole}
use Rattle.rx_script.proofs.report.push_nodes.Given as goal

abbrev pub invariant-loop-named : goal.invariant-loop-named
invariant-loop-named g l = (h : List Event) → IsWhole h l.tallies l.book
    → string_bytes l.text ≡ string_bytes l.initial.text ++ node_lines h (map node_binding (take l.named-index l.nodes))
