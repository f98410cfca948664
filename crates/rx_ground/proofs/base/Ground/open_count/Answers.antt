use Rattle.rx_ground.proofs.Laws.JustOpenHeldWaiting.{length-kept, length-nodes}
use Rattle.rx_ground.proofs.base.Ground.open_count.Goals as goal
use Rattle.std.proofs.Common.{rules}

pub returns : goal.returns
returns g c = search (rules, length-kept, length-nodes)
