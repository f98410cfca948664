-- The members of the hubs so far.
use Rattle.rx_script.proofs.Common.{◌≡◌, ◌++◌, take, map, string_bytes, number_binding, binding_text}
use Rattle.rx_script.proofs.naming.add_hubs.Given as goal

abbrev pub invariant-loop-named : goal.invariant-loop-named
invariant-loop-named l = map string_bytes l.members.items
    ≡ map string_bytes l.initial.members.items ++ map binding_text (map number_binding (take l.named-index l.hubs))
