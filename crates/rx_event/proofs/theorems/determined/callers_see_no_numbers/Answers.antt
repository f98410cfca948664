use Rattle.rx_event.proofs.Laws.ReadSeen.{callers_see}
use Rattle.rx_event.proofs.theorems.determined.callers_see_no_numbers.Goals as goal

pub returns : goal.returns
returns c = λ base. record { seen = callers_see base }
