use Rattle.rx_ground.proofs.Common.{accepted_count-parts}
use Rattle.rx_ground.proofs.base.Ground.held_count.Goals as goal
use Rattle.std.proofs.Common.{rules}

pub overflow_sub-result : goal.overflow_sub-result
overflow_sub-result g c = search (rules, accepted_count-parts)

pub overflow_sub-result-2 : goal.overflow_sub-result-2
overflow_sub-result-2 g c = search (rules, accepted_count-parts)

pub returns : goal.returns
returns g c = search (rules, accepted_count-parts)
