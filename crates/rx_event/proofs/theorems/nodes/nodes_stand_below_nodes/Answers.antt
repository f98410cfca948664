use Rattle.rx_event.proofs.Laws.Stands.{parent_node, source_stands, inner_stands, notifier_stands, connection_topmost}
use Rattle.rx_event.proofs.theorems.nodes.nodes_stand_below_nodes.Goals as goal
use Rattle.std.proofs.Common.{rules}

pub returns : goal.returns
returns c = search (rules, parent_node, source_stands, inner_stands, notifier_stands, connection_topmost)
