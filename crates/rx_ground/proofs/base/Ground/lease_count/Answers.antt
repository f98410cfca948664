use Rattle.rx_ground.proofs.Common.{AreLeased}
use Rattle.rx_ground.proofs.Laws.JustOpenHeldWaiting.{count-leases}
use Rattle.rx_ground.proofs.base.Ground.lease_count.Goals as goal
use Rattle.std.proofs.Common.{rules}

pub returns : goal.returns
returns g c = search (rules, AreLeased, count-leases)
