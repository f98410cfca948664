use Rattle.rx_script.proofs.EventsCounted.{told_more, told_same}
use Rattle.rx_script.proofs.counting.add_told.Goals as goal
use Rattle.std.proofs.Common.{rules}

pub returns-in_ok-insert : goal.returns-in_ok-insert
returns-in_ok-insert c = search (rules, told_more)

pub returns-else-is_told : goal.returns-else-is_told
returns-else-is_told c = search (rules, told_same)
