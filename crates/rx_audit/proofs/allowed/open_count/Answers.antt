use Rattle.rx_audit.proofs.OpenCount.{open_counted}
use Rattle.rx_audit.proofs.allowed.open_count.Goals as goal
use Rattle.std.proofs.Common.{rules}

pub returns : goal.returns
returns c = search (rules, open_counted)
