use Rattle.rx_hub.proofs.Common.{on_ok_weaker}
use Rattle.rx_hub.proofs.StoreShowsHubs.{count_hubs}
use Rattle.rx_hub.proofs.store.Store.reserve.Goals as goal
use Rattle.std.proofs.Common.{rules}

pub returns-clause-fits : goal.returns-clause-fits
returns-clause-fits c = search (rules, count_hubs, on_ok_weaker)
