use Rattle.std.proofs.Common.{append-nil, rules}
use Rattle.rx_time.proofs.timeline.take_from.Goals as goal

pub returns-then-is_empty-clause-value : goal.returns-then-is_empty-clause-value
returns-then-is_empty-clause-value g c =
    search (rules, append-nil)

pub returns-then-is_empty-clause-others : goal.returns-then-is_empty-clause-others
returns-then-is_empty-clause-others g c =
    search (rules, append-nil)
