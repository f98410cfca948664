use Rattle.rx_time.proofs.SlotsInOrder.{empty_iff}
use Rattle.rx_time.proofs.run.Run.is_empty.Goals as goal
use Rattle.std.proofs.Common.{rules}

pub returns : goal.returns
returns g c =
    search (rules, empty_iff)
