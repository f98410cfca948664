use Rattle.rx_hub.proofs.StoreShowsHubs.{first_shown}
use Rattle.rx_hub.proofs.store.Store.first.Goals as goal
use Rattle.std.proofs.Common.{rules}

pub returns : goal.returns
returns c = search (rules, first_shown)
