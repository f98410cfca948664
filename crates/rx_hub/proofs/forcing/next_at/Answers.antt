use Rattle.rx_hub.proofs.DueBySubscribers.{one_fewer, none_of, calm_dropped, chain_left}
use Rattle.rx_hub.proofs.forcing.next_at.Goals as goal
use Rattle.std.proofs.Common.{rules}

pub loop-index-smaller : goal.loop-index-smaller
loop-index-smaller c = search (rules, one_fewer)

pub loop-index-preserved : goal.loop-index-preserved
loop-index-preserved c = search (rules, none_of, calm_dropped, chain_left)
