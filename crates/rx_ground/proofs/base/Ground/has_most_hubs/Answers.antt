use Rattle.rx_ground.proofs.HubsAfterEvent.{too_many}
use Rattle.rx_ground.proofs.base.Ground.has_most_hubs.Goals as goal
use Rattle.std.proofs.Common.{rules}

pub returns : goal.returns
returns g c = search (rules, too_many)
