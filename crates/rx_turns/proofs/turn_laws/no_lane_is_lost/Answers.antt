use Rattle.rx_turns.proofs.Laws.NoLaneIsLost.{loses_no_lane}
use Rattle.rx_turns.proofs.turn_laws.no_lane_is_lost.Goals as goal

pub returns : goal.returns
returns c = loses_no_lane _ c.words_find_their_lanes.ensures c.commands_name_what_is_left.ensures
