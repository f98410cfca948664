use Rattle.rx_hub.proofs.StoreShowsHubs.{shown_record}
use Rattle.rx_hub.proofs.store.Store.published.Goals as goal
use Rattle.std.proofs.Common.{rules}

pub returns : goal.returns
returns c = search (rules, shown_record)
