use Rattle.rx_book.proofs.ShownKeys.{has_key_is}
use Rattle.rx_book.proofs.opening.connection_of.Goals as goal
use Rattle.std.proofs.Common.{rules}

pub returns-clause-known : goal.returns-clause-known
returns-clause-known g c = search (rules, has_key_is)
