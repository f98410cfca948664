use Rattle.rx_hub.proofs.StoreShowsHubs.{promised}
use Rattle.rx_hub.proofs.store.Store.promise.Goals as goal
use Rattle.std.proofs.Common.{rules}

pub returns : goal.returns
returns c = search (rules, promised)
