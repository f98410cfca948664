use Rattle.rx_ground.proofs.Common.{is_some, find}
use Rattle.rx_ground.proofs.InsideConnections.{parent_told}
use Rattle.rx_ground.proofs.base.Ground.above.Goals as goal
use Rattle.std.proofs.Common.{rules}

pub returns-clause-number : goal.returns-clause-number
returns-clause-number g c = search (rules, is_some, find, parent_told)
