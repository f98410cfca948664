use Rattle.rx_ground.proofs.Common.{length}
use Rattle.rx_ground.proofs.StandsWithMoreRoom.{sets_aside, same_register}
use Rattle.rx_ground.proofs.base.Ground.set_aside.Goals as goal
use Rattle.std.proofs.Common.{rules}

pub returns-then-take_spare-clause-ok : goal.returns-then-take_spare-clause-ok
returns-then-take_spare-clause-ok g c = search rules

pub returns-then-take_spare-clause-aside : goal.returns-then-take_spare-clause-aside
returns-then-take_spare-clause-aside g c = search (rules, sets_aside)

pub sum_up-requires-clause-standing : goal.sum_up-requires-clause-standing
sum_up-requires-clause-standing g c κs within = search (rules, same_register)

pub sum_up-requires-clause-within : goal.sum_up-requires-clause-within
sum_up-requires-clause-within g c κs within = search (rules, length, same_register)

pub returns-clause-ok : goal.returns-clause-ok
returns-clause-ok g c = search (rules, same_register)

pub returns-clause-aside : goal.returns-clause-aside
returns-clause-aside g c = search (rules, same_register)
