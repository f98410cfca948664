use Rattle.rx_agenda.proofs.NextStepAndCancel.{cancel-unbound, cancel-gone, cancel-taken, size_left-taken}
use Rattle.rx_agenda.proofs.agenda.cancel.Goals as goal
use Rattle.std.proofs.Common.{rules}

pub returns-in_default-clause-value : goal.returns-in_default-clause-value
returns-in_default-clause-value c =
    search (rules, cancel-unbound)

pub returns-in-Some-cancel-clause-value : goal.returns-in-Some-cancel-clause-value
returns-in-Some-cancel-clause-value c =
    search (rules, cancel-taken)

pub returns-in-Some-cancel-clause-size : goal.returns-in-Some-cancel-clause-size
returns-in-Some-cancel-clause-size c =
    search (rules, size_left-taken)

pub returns-in-None-clause-value : goal.returns-in-None-clause-value
returns-in-None-clause-value c =
    search (rules, cancel-gone)
