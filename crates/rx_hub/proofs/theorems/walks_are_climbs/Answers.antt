use Rattle.rx_hub.proofs.Laws.Walks.{climbs_told, all_stops_told, visits_told}
use Rattle.rx_hub.proofs.theorems.walks_are_climbs.Goals as goal

pub returns : goal.returns
returns c base = record { climb = climbs_told base; stops = all_stops_told base; visits = visits_told base }
