use Rattle.rx_ground.proofs.Common.{false≢true, AreTied}
use Rattle.rx_ground.proofs.TiedWhileSettling.{quiet_settled, quiet_chain}
use Rattle.rx_ground.proofs.base.Ground.is_calm.Goals as goal
use Rattle.std.proofs.Common.{rules}

pub returns-then-not-is_calm : goal.returns-then-not-is_calm
returns-then-not-is_calm g c = λ calm. absurd (false≢true calm)

pub returns : goal.returns
returns g c = search (rules, AreTied, quiet_settled, quiet_chain)
