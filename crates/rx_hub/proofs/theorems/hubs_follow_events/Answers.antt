use Rattle.rx_hub.proofs.Laws.AfterAll.{hubs_follow}
use Rattle.rx_hub.proofs.Laws.AfterCases.{hubs_same, hubs_stay, hubs_published, hubs_subscribed, hubs_connected}
use Rattle.rx_hub.proofs.Laws.AfterCases.{hubs_ended, hubs_closed, hubs_exchanged, tests_agree}
use Rattle.rx_hub.proofs.Laws.AfterReady.{hubs_older, ready_to_subscribe, ready_to_exchange, ready_to_connect}
use Rattle.rx_hub.proofs.theorems.hubs_follow_events.Goals as goal

pub returns-clause-ready : goal.returns-clause-ready
returns-clause-ready c base = record {
  publish = hubs_older;
  subscribe = ready_to_subscribe base;
  exchange = ready_to_exchange;
  connect = ready_to_connect base;
}

pub returns-clause-follow : goal.returns-clause-follow
returns-clause-follow c base = record {
  follow = hubs_follow base;
  same = hubs_same;
  stay = hubs_stay;
  publish = hubs_published;
  subscribe = hubs_subscribed;
  connect = hubs_connected;
  end = hubs_ended;
  close = hubs_closed;
  exchange = hubs_exchanged;
  agree = tests_agree;
}
