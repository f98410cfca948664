use Rattle.rx_hub.proofs.DueBySubscribers.{connect_found}
use Rattle.rx_hub.proofs.forcing.due_at.Goals as goal
use Rattle.std.proofs.Common.{rules}

pub returns-in-Connect : goal.returns-in-Connect
returns-in-Connect c = search (rules, connect_found)
