use Rattle.rx_ground.specs.Ties.{AreTied}
use Rattle.rx_hub.proofs.Laws.Walks.{hub_at}
use Rattle.rx_ground.proofs.HubsAfterEvent.{found_none, found_there}
use Rattle.rx_ground.proofs.base.Ground.found_hub.Goals as goal
use Rattle.std.proofs.Common.{rules}

pub returns-in_default : goal.returns-in_default
returns-in_default g c = search (rules, AreTied, found_none)

pub at-requires : goal.at-requires
at-requires g c = search (rules, hub_at)

pub returns : goal.returns
returns g c = search (rules, AreTied, found_there)
