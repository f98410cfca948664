use Rattle.rx_hub.proofs.Common.{refl, ap, ◌∙◌, option_and_then, arrival, beyond_end, hub_keys}
use Rattle.rx_hub.proofs.RouteSteps.{limit_is, cut_seen, hub_beyond, climbs_seen}
use Rattle.rx_hub.proofs.route.Route.climb_on.Goals as goal
use Rattle.std.proofs.Common.{rules}

pub overflow_sub-self-inside : goal.overflow_sub-self-inside
overflow_sub-self-inside g c = search (rules, limit_is)

pub returns-then-reached-self : goal.returns-then-reached-self
returns-then-reached-self g c = cut_seen _ _ c.self.view_is c.requires.under_way c.requires.at c.requires.visits c.climb-reached.ensures.visits
    c.if-reached-self.true

pub returns : goal.returns
returns g c =
    let nodes = c.args.tree.now.nodes in
    let hubs = c.args.hubs.now.hubs in
    let found = c.climb-reached.ensures in
    let on = c.go_on-self-inside.ensures in
    climbs_seen {visits = c.climb-reached.result.visits} {first = c.first_beyond-first.result}
    c.self.view_is c.requires.ordered c.requires.under_way c.requires.at c.requires.visits (record {
      visited = found.visits;
      firsts = c.first_beyond-first.ensures.keys ∙ ap (hub_keys hubs) found.hub ∙ hub_beyond nodes hubs c.climb-reached.result.stop ∙
          ap (beyond_end nodes hubs) found.stop;
      arrives = c.arrival.ensures ∙ ap (option_and_then arrival) found.stop;
    }) (record { fits = c.if-reached-self.false; sum = refl; on = on.goes_on; room = on.room })
