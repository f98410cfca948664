use Rattle.rx_live.proofs.Common.{string_bytes}
use Rattle.rx_live.proofs.ConnectionAnswered.{said_nothing}
use Rattle.rx_live.proofs.connected.push_connected.Goals as goal
use Rattle.std.proofs.Common.{rules}

pub returns-then-is_empty-clause-text : goal.returns-then-is_empty-clause-text
returns-then-is_empty-clause-text c = search (rules, said_nothing, string_bytes)
