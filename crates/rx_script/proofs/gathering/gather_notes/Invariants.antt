-- The notes from the first on that was not handed out are noted, and nothing else of the book was changed.
use Rattle.rx_script.proofs.Common.{◌≡◌, ◌≤◌, ◌-◌, ◌++◌, List, length, take, drop, Mail, notes, IsPromised, AreNotesOf}
use Rattle.rx_script.proofs.gathering.gather_notes.Given as goal

abbrev pub invariant-loop-note : goal.invariant-loop-note
invariant-loop-note g l = record {
  kept : IsPromised l.book;
  begun : l.initial.book.given ≤ l.book.given;
  notes : (mail : List Mail) → AreNotesOf mail l.initial.tallies
      → AreNotesOf (mail ++ drop l.initial.book.given (take l.book.given (notes l.initial.book.history))) l.tallies;
  tallies : l.tallies ≡ record l.initial.tallies { notes = l.tallies.notes };
  book : l.book ≡ record l.initial.book { given = l.book.given };
}

abbrev pub decreases-loop-note : goal.decreases-loop-note
decreases-loop-note g l = length (notes l.book.history) - l.book.given
