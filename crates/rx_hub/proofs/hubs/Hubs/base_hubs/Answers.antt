use Rattle.rx_hub.proofs.HubsForgetEnds.{kept_of_all}
use Rattle.rx_hub.proofs.hubs.Hubs.base_hubs.Goals as goal
use Rattle.std.proofs.Common.{rules}

pub returns : goal.returns
returns c = search (rules, kept_of_all)
