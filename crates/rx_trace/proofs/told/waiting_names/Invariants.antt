-- The names of those so far that wait.
use Rattle.rx_trace.proofs.Common.{◌≡◌, map, take, string_bytes, name_text, names_where, res_binding, waits_by}
use Rattle.rx_trace.proofs.told.waiting_names.Given as goal

abbrev pub invariant-loop-named : goal.invariant-loop-named
invariant-loop-named g l = map string_bytes l.names.items
    ≡ map name_text (names_where (waits_by l.book l.handed) (map res_binding (take l.named-index l.resources)))
