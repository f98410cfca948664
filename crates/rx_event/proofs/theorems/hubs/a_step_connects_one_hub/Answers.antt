use Rattle.rx_event.proofs.Laws.Common.{Accept}
use Rattle.rx_event.proofs.Laws.Waits.{settled_connected, waits_after, kept_unsubscribed, forced_connected, forced_connects, forced_closes}
use Rattle.rx_event.proofs.theorems.hubs.a_step_connects_one_hub.Goals as goal
use Rattle.std.proofs.Common.{rules}

pub returns : goal.returns
returns c = search (rules, settled_connected, waits_after, kept_unsubscribed, Accept, forced_connected, forced_connects, forced_closes)
