use Rattle.rx_ground.proofs.StandsWithMoreRoom.{standing_empty}
use Rattle.rx_ground.proofs.base.Ground.new.Goals as goal
use Rattle.std.proofs.Common.{rules}

pub returns-clause-standing : goal.returns-clause-standing
returns-clause-standing g c = search (rules, standing_empty)
