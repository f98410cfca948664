use Rattle.rx_event.proofs.Laws.Connections.{last_connection, cut_by_last}
use Rattle.rx_event.proofs.theorems.hubs.the_last_connection_tells.Goals as goal

pub returns : goal.returns
returns c = λ base. record { last = last_connection; cut = cut_by_last }
