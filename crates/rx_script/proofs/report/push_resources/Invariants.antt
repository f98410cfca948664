-- The lines of the resources so far.
use Rattle.rx_script.proofs.Common.{◌≡◌, ◌++◌, List, take, map, string_bytes, Event, res_lines, res_binding, IsWhole}
use Rattle.rx_script.proofs.report.push_resources.Given as goal

abbrev pub invariant-loop-named : goal.invariant-loop-named
invariant-loop-named g l = (h : List Event) → IsWhole h l.tallies l.book
    → string_bytes l.text ≡ string_bytes l.initial.text ++ res_lines h (map res_binding (take l.named-index l.resources))
