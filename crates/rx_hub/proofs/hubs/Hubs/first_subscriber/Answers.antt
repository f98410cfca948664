use Rattle.rx_hub.proofs.HubsByNumber.{find_none, first_found}
use Rattle.rx_hub.proofs.hubs.Hubs.first_subscriber.Goals as goal
use Rattle.std.proofs.Common.{rules}

pub returns-in_err-index_of : goal.returns-in_err-index_of
returns-in_err-index_of c = search (rules, find_none)

pub returns : goal.returns
returns c =
    let there = c.in_ok-index_of.ensures in
    rw (← c.self.view_is) (first_found c.self.inside.store there.promised _ c.args.hub c.first.result there.some c.first.ensures)
