use Rattle.rx_picture.proofs.LeaksByTables.{left_open, left_shut}
use Rattle.rx_picture.proofs.tables.is_left_behind.Goals as goal
use Rattle.std.proofs.Common.{rules}

pub returns-then-value_at-events : goal.returns-then-value_at-events
returns-then-value_at-events c =
    search (rules, left_open)

pub returns : goal.returns
returns c =
    search (rules, left_shut)
