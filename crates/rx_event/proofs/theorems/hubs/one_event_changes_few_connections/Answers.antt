use Rattle.rx_event.proofs.Laws.Connections.{source_ended_or_now, waited_or_now, left_or_now}
use Rattle.rx_event.proofs.theorems.hubs.one_event_changes_few_connections.Goals as goal

pub returns : goal.returns
returns c = λ base. record { cut = source_ended_or_now base; waits = waited_or_now base; left = left_or_now base }
