-- The note so many times.
use Rattle.rx_script.proofs.Common.{◌≡◌, ◌++◌, string_bytes, flat_map, note_in_line}
use Rattle.std.specs.Prelude.{replicate}
use Rattle.rx_script.proofs.text.push_in_a_row.Given as goal

abbrev pub invariant-loop : goal.invariant-loop
invariant-loop l = string_bytes l.text ≡ string_bytes l.initial.text ++ flat_map note_in_line (replicate l.counter l.repeated.note)
