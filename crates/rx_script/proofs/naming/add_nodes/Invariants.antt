-- The members of the nodes so far.
use Rattle.rx_script.proofs.Common.{◌≡◌, ◌++◌, take, map, string_bytes, node_binding, binding_text}
use Rattle.rx_script.proofs.naming.add_nodes.Given as goal

abbrev pub invariant-loop-named : goal.invariant-loop-named
invariant-loop-named l = map string_bytes l.members.items
    ≡ map string_bytes l.initial.members.items ++ map binding_text (map node_binding (take l.named-index l.nodes))
