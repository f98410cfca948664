-- The notes so far.
use Rattle.rx_script.proofs.Common.{◌≡◌, ◌++◌, take, string_bytes, flat_map, note_in_line}
use Rattle.rx_script.specs.Repeated.{one_by_one}
use Rattle.rx_script.proofs.text.push_notes.Given as goal

abbrev pub invariant-loop-repeated : goal.invariant-loop-repeated
invariant-loop-repeated l = string_bytes l.text
    ≡ string_bytes l.initial.text ++ flat_map note_in_line (one_by_one (take l.repeated-index l.notes))
