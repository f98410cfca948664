use Rattle.rx_hub.proofs.Common.{same_Some}
use Rattle.rx_hub.proofs.HubsByNumber.{at_same, only_hub}
use Rattle.rx_hub.proofs.store.Store.disconnect.Goals as goal
use Rattle.std.proofs.Common.{rules}

pub returns-in-Some : goal.returns-in-Some
returns-in-Some c = search (rules, same_Some, at_same, only_hub)
