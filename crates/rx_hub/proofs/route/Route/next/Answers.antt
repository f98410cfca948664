use Rattle.rx_hub.proofs.RouteSteps.{limit_is, ends_cut}
use Rattle.rx_hub.proofs.route.Route.next.Goals as goal
use Rattle.std.proofs.Common.{rules}

pub climb_on-arrived-requires-clause-visits : goal.climb_on-arrived-requires-clause-visits
climb_on-arrived-requires-clause-visits g c κs within = search (rules, limit_is)

pub returns : goal.returns
returns g c = search (rules, ends_cut)
