use Rattle.rx_turns.proofs.NothingLeft.{nothing_is_left}
use Rattle.rx_turns.proofs.turn_laws.nothing_is_left_where_nothing_is_handed_out.Goals as goal

pub returns : goal.returns
returns c = nothing_is_left
