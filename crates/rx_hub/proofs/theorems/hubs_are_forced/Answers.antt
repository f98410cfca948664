use Rattle.rx_hub.proofs.Laws.Dues.{hubs_forced, none_waits, none_cut, none_left, quiet_settles}
use Rattle.rx_hub.proofs.theorems.hubs_are_forced.Goals as goal
use Rattle.std.proofs.Common.{rules}

pub returns : goal.returns
returns c base = search (rules, hubs_forced, none_waits, none_cut, none_left, quiet_settles)
