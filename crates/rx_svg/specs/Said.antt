-- What somebody was told, in words.
use Rattle.std.specs.Prelude.{ℕ, List, ◌++◌, codes}
use Rattle.std.specs.Fmt.{signed_decimal}
use Rattle.rx_note.specs.declared.note.Note.{Note}
use Rattle.rx_note.specs.declared.note.Note.TheVariants.{Next, Project, End}
use Rattle.rx_svg.specs.Label.{terminal_label}

unfoldable pub said_label : Note → List ℕ
said_label (Next value) = codes " next " ++ signed_decimal value
said_label (Project value) = codes " project " ++ signed_decimal value
said_label (End t) = terminal_label t
