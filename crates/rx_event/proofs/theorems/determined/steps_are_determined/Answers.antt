use Rattle.rx_event.proofs.Laws.Alike.{one_terminal, connects_first, closed_in_both, courses_alike, steps_alike}
use Rattle.rx_event.proofs.theorems.determined.steps_are_determined.Goals as goal
use Rattle.std.proofs.Common.{rules}

pub returns : goal.returns
returns c = search (rules, one_terminal, connects_first, closed_in_both, courses_alike, steps_alike)
