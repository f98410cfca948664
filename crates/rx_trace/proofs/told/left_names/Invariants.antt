-- The names of those so far that were not handed out.
use Rattle.rx_trace.proofs.Common.{◌≡◌, not, map, take, contains, nat_eq, string_bytes, name_text, names_where, res_binding}
use Rattle.rx_trace.proofs.told.left_names.Given as goal

abbrev pub invariant-loop-named : goal.invariant-loop-named
invariant-loop-named l = map string_bytes l.names.items
    ≡ map name_text (names_where (λ r. not (contains nat_eq l.handed.numbers r)) (map res_binding (take l.named-index l.resources)))
