use Rattle.rx_hub.proofs.StoreShowsHubs.{last_shown}
use Rattle.rx_hub.proofs.store.Store.last.Goals as goal
use Rattle.std.proofs.Common.{rules}

pub returns : goal.returns
returns c = search (rules, last_shown)
