use Rattle.rx_event.proofs.Laws.Closings.{makes_neither_opens, roots_before, manual_before, unconnected_after, let_go_after, roots_no_more}
use Rattle.rx_event.proofs.Laws.Closings.{connections_no_more, root_less, connection_less, hub_disconnected}
use Rattle.rx_event.proofs.theorems.closing.closing_opens_nothing_anew.Goals as goal
use Rattle.std.proofs.Common.{rules}

pub returns-clause-anew : goal.returns-clause-anew
returns-clause-anew c = search (rules, roots_before, makes_neither_opens, manual_before, roots_no_more, connections_no_more, unconnected_after, let_go_after)

pub returns-clause-less : goal.returns-clause-less
returns-clause-less c = λ base. record { root = root_less base; connection = connection_less base; hub = hub_disconnected }
