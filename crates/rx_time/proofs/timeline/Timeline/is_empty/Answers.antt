use Rattle.std.proofs.Common.{true≢false, rules}
use Rattle.rx_time.proofs.TwoLists.{nil_front}
use Rattle.rx_time.proofs.timeline.Timeline.is_empty.Goals as goal

pub returns-else-is_empty : goal.returns-else-is_empty
returns-else-is_empty g c = search (rules, true≢false, nil_front)
