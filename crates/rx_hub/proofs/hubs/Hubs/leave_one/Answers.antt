use Rattle.rx_hub.proofs.ClosedLemmas.{subscriber_on, subscriber_left, connection_left, none_left}
use Rattle.rx_hub.proofs.hubs.Hubs.leave_one.Goals as goal
use Rattle.std.proofs.Common.{rules}

pub leave-requires-clause-subscribes : goal.leave-requires-clause-subscribes
leave-requires-clause-subscribes c = search (rules, subscriber_on)

pub returns-in-Some : goal.returns-in-Some
returns-in-Some c = search (rules, subscriber_left)

pub returns-in-Some-connects : goal.returns-in-Some-connects
returns-in-Some-connects c = search (rules, connection_left)

pub returns-in_default-connects : goal.returns-in_default-connects
returns-in_default-connects c = search (rules, none_left)
