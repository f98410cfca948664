-- So many notes were handed out, and nothing else of the book was changed.
use Rattle.rx_storm.proofs.Common.{◌≡◌, ◌+◌, IsPromised}
use Rattle.rx_storm.proofs.ending.take_all_mail.Given as goal

abbrev pub invariant-loop-taken : goal.invariant-loop-taken
invariant-loop-taken g l = record {
  promised : IsPromised l.book;
  given : l.book.given ≡ l.initial.book.given + l.taken;
  kept : l.book ≡ record l.initial.book { given = l.book.given };
}
