use Rattle.rx_event.proofs.Laws.Common.{length}
use Rattle.rx_event.proofs.Laws.Connections.{sum_by-falling}
use Rattle.rx_event.proofs.theorems.hubs.subscribers_may_be_gone_over_downward.Goals as goal
use Rattle.std.proofs.Common.{rules}

pub returns : goal.returns
returns c = search (rules, sum_by-falling, length)
