use Rattle.std.proofs.Common.{arith}
use Rattle.rx_ground.proofs.StandsWithMoreRoom.{standing_roomier, has_beside}
use Rattle.rx_ground.proofs.base.Ground.make_rest.Goals as goal
use Rattle.std.proofs.Common.{rules}

pub reserve-requires-clause-within : goal.reserve-requires-clause-within
reserve-requires-clause-within g c κs within = let l = c.promise.ensures.register.within in omega arith

pub returns-in-Ok-clause-ok : goal.returns-in-Ok-clause-ok
returns-in-Ok-clause-ok g c = search (rules, has_beside)

pub returns-in-Ok-clause-standing : goal.returns-in-Ok-clause-standing
returns-in-Ok-clause-standing g c = let room = c.reserve.ensures.room in let enough = c.requires.tells.events in standing_roomier g.R.Resource _ _
    c.reserve.ensures.kept (omega arith) c.requires.standing

pub returns-in-Err-clause-standing : goal.returns-in-Err-clause-standing
returns-in-Err-clause-standing g c = let room = c.reserve.ensures.room in let enough = c.requires.tells.events in standing_roomier g.R.Resource _ _
    c.reserve.ensures.kept (omega arith) c.requires.standing
