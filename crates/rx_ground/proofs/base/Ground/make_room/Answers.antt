use Rattle.rx_ground.proofs.StandsWithMoreRoom.{roomier_on}
use Rattle.rx_ground.proofs.base.Ground.make_room.Goals as goal
use Rattle.std.proofs.Common.{rules}

pub returns-in-Ok-clause-kept : goal.returns-in-Ok-clause-kept
returns-in-Ok-clause-kept g c = search (rules, roomier_on)
