use Rattle.rx_book.proofs.ShownRoots.{open_root_is, root_known}
use Rattle.rx_book.proofs.book.Book.open_root.Goals as goal
use Rattle.std.proofs.Common.{rules}

pub returns-clause-least : goal.returns-clause-least
returns-clause-least g c = search (rules, open_root_is)

pub returns-clause-key : goal.returns-clause-key
returns-clause-key g c = search (rules, root_known)
