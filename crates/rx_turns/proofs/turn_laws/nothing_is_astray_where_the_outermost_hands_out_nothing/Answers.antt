use Rattle.rx_turns.proofs.NothingAstray.{nothing_is_astray}
use Rattle.rx_turns.proofs.turn_laws.nothing_is_astray_where_the_outermost_hands_out_nothing.Goals as goal

pub returns : goal.returns
returns c = nothing_is_astray c.words_find_their_lanes.ensures
