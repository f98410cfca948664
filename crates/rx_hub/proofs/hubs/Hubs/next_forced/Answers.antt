use Rattle.rx_hub.proofs.Laws.Dues.{concerns_hub}
use Rattle.rx_hub.proofs.DueBySubscribers.{none_of, connects_if, acts_if}
use Rattle.rx_hub.proofs.hubs.Hubs.next_forced.Goals as goal
use Rattle.std.proofs.Common.{rules}

pub returns-then-is_some-clause-due : goal.returns-then-is_some-clause-due
returns-then-is_some-clause-due c = search (rules, connects_if)

pub returns-clause-due : goal.returns-clause-due
returns-clause-due c = search (rules, none_of, acts_if)

pub returns-then-is_some-clause-concerns : goal.returns-then-is_some-clause-concerns
returns-then-is_some-clause-concerns c = search (rules, concerns_hub, connects_if)

pub returns-clause-concerns : goal.returns-clause-concerns
returns-clause-concerns c = search (rules, none_of, concerns_hub, acts_if)
