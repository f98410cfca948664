use Rattle.rx_script.proofs.NotesInARow.{one_by_one-raised}
use Rattle.rx_script.proofs.repeated.add.Goals as goal
use Rattle.std.proofs.Common.{rules}

pub returns-then-last-lt18446744073709551615 : goal.returns-then-last-lt18446744073709551615
returns-then-last-lt18446744073709551615 c = search (rules, one_by_one-raised)
