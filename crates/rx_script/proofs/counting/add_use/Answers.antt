use Rattle.rx_script.proofs.Common.{cond, nat_eq, unwrap_or, get}
use Rattle.rx_event.proofs.Laws.Totals.{uses-push}
use Rattle.rx_script.proofs.EventsCounted.{uses_few, unused}
use Rattle.rx_script.proofs.counting.add_use.Goals as goal
use Rattle.std.proofs.Common.{rules}

pub returns-in_ok-raise : goal.returns-in_ok-raise
returns-in_ok-raise c = search (rules, uses_few, unwrap_or, get, nat_eq, cond, uses-push)

pub returns-in_default : goal.returns-in_default
returns-in_default c = search (rules, uses-push, cond, unused)
