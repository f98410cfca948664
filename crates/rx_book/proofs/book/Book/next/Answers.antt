use Rattle.rx_book.proofs.Common.{w64, to_z-of_z}
use Rattle.rx_book.proofs.ItemsWithin.{told_answers, refused_answers}
use Rattle.rx_book.proofs.book.Book.next.Goals as goal

pub returns-in-Ok-Told : goal.returns-in-Ok-Told
returns-in-Ok-Told g c =
    told_answers c.in-Ok-Told.field-0 c.in-Ok-Told.place c.in-Ok-Told.field-0-is (rw (to_z-of_z w64 c.args.value c.ranges.value) at c.in-Ok-Told.ensures)

pub returns-in-Err : goal.returns-in-Err
returns-in-Err g c = refused_answers (rw (to_z-of_z w64 c.args.value c.ranges.value) at c.in-Err.ensures)
