use Rattle.rx_book.proofs.ShownKeys.{has_key_is}
use Rattle.rx_book.proofs.book.Book.owed.Goals as goal
use Rattle.std.proofs.Common.{rules}

pub returns : goal.returns
returns g c = search (rules, has_key_is)
