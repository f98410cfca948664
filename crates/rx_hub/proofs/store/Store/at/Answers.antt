use Rattle.rx_hub.proofs.StoreShowsHubs.{get_some, get_same, hub_within, shown_record}
use Rattle.rx_hub.proofs.store.Store.at.Goals as goal
use Rattle.std.proofs.Common.{rules}

pub index-requires : goal.index-requires
index-requires c = search (rules, hub_within)

pub returns : goal.returns
returns c = search (rules, hub_within, get_some, get_same, shown_record)
