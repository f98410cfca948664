use Rattle.rx_event.proofs.Laws.Hubs.{hubs_in_order}
use Rattle.rx_event.proofs.Laws.Projections.{stops_open}
use Rattle.rx_event.proofs.Laws.Climbs.{visits_end, visits_only, visits_open, climb_cut_off, visits_within, climb_whole, climb_in_order, stops_stop}
use Rattle.rx_event.proofs.Laws.Climbs.{stops_whole, stops_in_order, visits_each, visits_by_node, visits_all}
use Rattle.rx_event.proofs.theorems.climbs.climbs_go_on_in_order.Goals as goal
use Rattle.std.proofs.Common.{rules}

pub returns-clause-end : goal.returns-clause-end
returns-clause-end c = λ base. record {
  ends = visits_end base;
  only = λ h ns vs ws p q. visits_only p q;
  opened = λ h n vs o p. visits_open h p (o, tt);
  stopped = λ h law n o. stops_open base h n law o;
  later = hubs_in_order;
}

pub returns-clause-whole : goal.returns-clause-whole
returns-clause-whole c = search (rules, climb_cut_off, visits_within, climb_whole, stops_whole, climb_in_order, stops_stop, stops_in_order)

pub returns-clause-counted : goal.returns-clause-counted
returns-clause-counted c = record { each = λ h ns vs p k. visits_each h k p; by_node = visits_by_node; all = visits_all }
