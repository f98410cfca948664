use Rattle.rx_book.proofs.SeenAcrossCheckpoint.{checkpointed, answers_made, answers_refused}
use Rattle.rx_book.proofs.book.Book.checkpoint.Goals as goal
use Rattle.rx_book.proofs.book.Book.checkpoint.Goals.{in-Ok, in-Err}
use Rattle.std.proofs.Common.{rules}

pub returns : goal.returns
returns g c = search (rules, in-Ok, answers_made, checkpointed, in-Err, answers_refused)
