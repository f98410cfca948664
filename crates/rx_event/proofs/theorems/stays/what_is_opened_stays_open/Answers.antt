use Rattle.rx_event.proofs.Laws.StaysOpen.{opened_stays, opened_using_stays, connected_stays, accepted_stays}
use Rattle.rx_event.proofs.theorems.stays.what_is_opened_stays_open.Goals as goal
use Rattle.std.proofs.Common.{rules}

pub returns : goal.returns
returns c = search (rules, opened_stays, opened_using_stays, connected_stays, accepted_stays)
