use Rattle.rx_picture.proofs.LeaksByTables.{leaks_not, leaks_if_made}
use Rattle.rx_picture.proofs.leaks.is_leak.Goals as goal
use Rattle.std.proofs.Common.{rules}

pub returns-then-value_at-events : goal.returns-then-value_at-events
returns-then-value_at-events c =
    search (rules, leaks_not)

pub returns : goal.returns
returns c =
    search (rules, leaks_if_made)
