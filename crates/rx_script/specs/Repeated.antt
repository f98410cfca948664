-- Notes in a row that are the same, kept as one record. No public clause of another crate cites this module.
use Rattle.std.specs.Prelude.{List, flat_map, replicate}
use Rattle.rx_note.specs.declared.note.Note.{Note}
use Rattle.rx_script.specs.declared.repeated.Repeated.{Repeated}

-- the note, as often as it comes
abbrev pub in_a_row : Repeated → List Note
in_a_row r = replicate r.times r.note

-- all notes, each as often as it comes
abbrev pub one_by_one : List Repeated → List Note
one_by_one all = flat_map in_a_row all
