use Rattle.rx_ground.proofs.Common.{length, le-ltb}
use Rattle.rx_ground.proofs.base.Ground.is_over.Goals as goal
use Rattle.std.proofs.Common.{rules}

pub returns-then-has_spare : goal.returns-then-has_spare
returns-then-has_spare g c = search (rules, le-ltb, length)
