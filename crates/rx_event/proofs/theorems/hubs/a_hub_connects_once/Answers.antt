use Rattle.rx_event.proofs.Laws.Hubs.{one_open_connection, one_where_subscribed, unsubscribed_unconnected}
use Rattle.rx_event.proofs.theorems.hubs.a_hub_connects_once.Goals as goal
use Rattle.std.proofs.Common.{rules}

pub returns : goal.returns
returns c = search (rules, one_open_connection, one_where_subscribed, unsubscribed_unconnected)
