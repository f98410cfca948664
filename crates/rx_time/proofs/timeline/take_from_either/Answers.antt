use Rattle.rx_time.proofs.TwoLists.{others_back, others_front, value_back, value_front}
use Rattle.rx_time.proofs.timeline.take_from_either.Goals as goal
use Rattle.std.proofs.Common.{rules}

pub returns-in-Some-clause-value : goal.returns-in-Some-clause-value
returns-in-Some-clause-value g c = search (rules, value_front)

pub returns-in-Some-clause-others : goal.returns-in-Some-clause-others
returns-in-Some-clause-others g c =
    search (rules, others_front)

pub returns-in-None-clause-value : goal.returns-in-None-clause-value
returns-in-None-clause-value g c =
    search (rules, value_back)

pub returns-in-None-clause-others : goal.returns-in-None-clause-others
returns-in-None-clause-others g c =
    search (rules, others_back)
