use Rattle.rx_ground.proofs.TiedWhileSettling.{settled, way_starts}
use Rattle.rx_ground.proofs.base.Ground.settle.Goals as goal
use Rattle.std.proofs.Common.{rules}

-- where nothing is due nothing is written
pub returns-then-is_calm : goal.returns-then-is_calm
returns-then-is_calm g c = search (rules, settled, way_starts)
