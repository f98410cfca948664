use Rattle.rx_hub.proofs.StoreShowsHubs.{count_hubs}
use Rattle.rx_hub.proofs.store.Store.len.Goals as goal
use Rattle.std.proofs.Common.{rules}

pub returns : goal.returns
returns c = search (rules, count_hubs)
