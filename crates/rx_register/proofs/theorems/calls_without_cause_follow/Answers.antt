use Rattle.rx_register.proofs.Laws.Calls.{call_follows, call_fits}
use Rattle.rx_register.proofs.theorems.calls_without_cause_follow.Goals as goal

pub returns : goal.returns
returns c base = record { follow = call_follows base; fit = call_fits base }
