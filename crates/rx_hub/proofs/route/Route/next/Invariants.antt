use Rattle.rx_hub.specs.Route.{visits_left}
use Rattle.rx_hub.proofs.RouteSteps.{IsFurther}
use Rattle.rx_hub.proofs.route.Route.next.Given as goal

abbrev pub invariant-loop-self : goal.invariant-loop-self
invariant-loop-self g l = IsFurther l.fn.tree.nodes l.fn.hubs.hubs l.initial.self l.self

abbrev pub decreases-loop-self : goal.decreases-loop-self
decreases-loop-self g l = visits_left l.self
