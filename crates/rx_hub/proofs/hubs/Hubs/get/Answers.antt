use Rattle.rx_hub.proofs.HubsByNumber.{find_index, find_none}
use Rattle.rx_hub.proofs.hubs.Hubs.get.Goals as goal
use Rattle.std.proofs.Common.{rules}

pub returns-in_err-index_of : goal.returns-in_err-index_of
returns-in_err-index_of c = search (rules, find_none)

pub returns : goal.returns
returns c = search (rules, find_index)
