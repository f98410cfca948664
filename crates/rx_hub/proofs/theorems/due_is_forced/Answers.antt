use Rattle.rx_hub.proofs.Laws.DuesInTree.{due_at_in, due_forced, quiet_settled, quiet_settled_hubless, settled_quiet_records}
use Rattle.rx_hub.proofs.theorems.due_is_forced.Goals as goal
use Rattle.std.proofs.Common.{rules}

pub returns : goal.returns
returns c base = search (rules, due_forced, due_at_in, quiet_settled, quiet_settled_hubless, settled_quiet_records)
