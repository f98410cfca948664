use Rattle.rx_event.proofs.Laws.LetGo.{nothing_open, nothing_open_counted, let_go_counted}
use Rattle.rx_event.proofs.theorems.closing.nothing_stays_open_by_itself.Goals as goal

pub returns : goal.returns
returns c = λ base. record { none = nothing_open base; empty = nothing_open_counted base; counted = let_go_counted }
