use Rattle.rx_hub.proofs.HubsByNumber.{find_none}
use Rattle.rx_hub.proofs.hubs.Hubs.index_of.Goals as goal
use Rattle.std.proofs.Common.{rules}

pub returns-clause-none : goal.returns-clause-none
returns-clause-none c = search (rules, find_none)
