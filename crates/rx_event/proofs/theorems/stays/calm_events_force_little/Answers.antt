use Rattle.rx_event.proofs.Laws.Calm.{due_calm, quiet_on, settled_on, subscribed_on}
use Rattle.rx_event.proofs.theorems.stays.calm_events_force_little.Goals as goal
use Rattle.std.proofs.Common.{rules}

pub returns : goal.returns
returns c = search (rules, due_calm, quiet_on, settled_on, subscribed_on)
