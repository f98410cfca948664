use Rattle.rx_ground.proofs.StandsWithMoreRoom.{aside_wanted, aside_enough, sets_aside}
use Rattle.rx_ground.proofs.base.Ground.sum_up.Goals as goal
use Rattle.std.proofs.Common.{rules}

pub overflow_add-wanted : goal.overflow_add-wanted
overflow_add-wanted g c = search rules

pub set_aside-requires : goal.set_aside-requires
set_aside-requires g c = search rules

pub returns-clause-ok : goal.returns-clause-ok
returns-clause-ok g c = search (rules, aside_wanted)

pub returns-clause-aside : goal.returns-clause-aside
returns-clause-aside g c = search (rules, sets_aside, aside_enough)
