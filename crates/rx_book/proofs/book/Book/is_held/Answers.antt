use Rattle.rx_book.proofs.ShownKeys.{has_res_key_is}
use Rattle.rx_book.proofs.book.Book.is_held.Goals as goal
use Rattle.std.proofs.Common.{rules}

pub returns : goal.returns
returns g c = search (rules, has_res_key_is)
