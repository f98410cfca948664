use Rattle.std.proofs.Common.{◌≡◌, Option, is_some, IsSome, IfSome, ap, ◌∙◌, subst}
use Rattle.rx_lanes.specs.declared.names.LaneName.{LaneName}
use Rattle.rx_lanes.specs.State.{lane}
use Rattle.rx_engine.specs.Homes.{lane_of, is_there}
use Rattle.rx_engine.specs.States.{State}
use Rattle.rx_engine.specs.Ties.{state_of}
use Rattle.rx_engine.proofs.HomesFound.{lane_there, all_found}
use Rattle.rx_engine.proofs.engine.Engine.lane_of.Goals as goal

pub returns-clause-there : goal.returns-clause-there
returns-clause-there c =
    ap (λ (o : Option LaneName). is_some o) c.find_lane.ensures
    ∙ subst (λ (s : State). is_some (lane_of s c.args.of) ≡ is_there s.book c.args.of) c.self.view_is
    (lane_there (state_of c.self.inside) c.promise.ensures c.self.invariant c.args.of)

pub returns-clause-found : goal.returns-clause-found
returns-clause-found c =
    subst (λ (s : State). c.find_lane.result ≡ lane_of s c.args.of → IfSome c.find_lane.result (λ name. IsSome (lane s.parts.lanes name))) c.self.view_is
    (all_found (state_of c.self.inside) c.self.invariant c.args.of c.find_lane.result) c.find_lane.ensures
