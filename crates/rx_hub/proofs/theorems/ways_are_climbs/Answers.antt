use Rattle.rx_hub.proofs.Laws.Ways.{climb_whole_way, stops_whole_way, climb_connected_way, stops_connected_way}
use Rattle.rx_hub.proofs.theorems.ways_are_climbs.Goals as goal

pub returns : goal.returns
returns c base =
    record {
      whole = climb_whole_way base;
      alone = stops_whole_way base;
      connected_climb = climb_connected_way;
      connected_stops = stops_connected_way;
    }
