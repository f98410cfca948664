use Rattle.rx_event.proofs.Laws.Notes.{notes_grammatical, notes_projected, notes_silent}
use Rattle.rx_event.proofs.theorems.notes.notes_obey_the_grammar.Goals as goal
use Rattle.std.proofs.Common.{rules}

pub returns : goal.returns
returns c = search (rules, notes_grammatical, notes_projected, notes_silent)
