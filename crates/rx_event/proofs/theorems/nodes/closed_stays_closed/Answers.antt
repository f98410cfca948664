use Rattle.rx_event.proofs.Laws.Openness.{closed_below, stays_closed, stays_closed_after}
use Rattle.rx_event.proofs.theorems.nodes.closed_stays_closed.Goals as goal

pub returns : goal.returns
returns c = record { below = closed_below; stays = stays_closed; stays_after = stays_closed_after }
