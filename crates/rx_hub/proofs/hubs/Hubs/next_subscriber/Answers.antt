use Rattle.rx_hub.proofs.Laws.Walks.{found_hub}
use Rattle.rx_hub.proofs.hubs.Hubs.next_subscriber.Goals as goal
use Rattle.std.proofs.Common.{rules}

pub returns : goal.returns
returns c = search (rules, found_hub)
