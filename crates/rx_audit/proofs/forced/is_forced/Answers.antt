use Rattle.rx_audit.proofs.Common.{length}
use Rattle.rx_audit.proofs.EndsDue.{forced_answer}
use Rattle.rx_audit.proofs.forced.is_forced.Goals as goal
use Rattle.std.proofs.Common.{rules}

pub returns : goal.returns
returns c = search (rules, forced_answer, length)
