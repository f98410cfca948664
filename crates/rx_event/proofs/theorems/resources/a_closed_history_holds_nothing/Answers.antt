use Rattle.rx_event.proofs.Laws.NothingOpenNothingHeld.{owned_count_closed, held_count_closed, taken_count_closed}
use Rattle.rx_event.proofs.theorems.resources.a_closed_history_holds_nothing.Goals as goal

pub returns : goal.returns
returns c = λ base. record { owned = owned_count_closed; held = held_count_closed; taken = taken_count_closed base }
