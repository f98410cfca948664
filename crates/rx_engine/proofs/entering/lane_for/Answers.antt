use Rattle.std.proofs.Common.{Option, refl, sym, subst}
use Rattle.rx_lanes.specs.declared.names.LaneName.{LaneName}
use Rattle.rx_lanes.specs.State.{lane}
use Rattle.rx_engine.specs.Openings.{IsLaneFor}
use Rattle.rx_engine.proofs.Laws.EffectsInLanes.{some_lane}
use Rattle.rx_engine.proofs.entering.lane_for.Goals as goal

pub returns-in-Some-clause-given : goal.returns-in-Some-clause-given
returns-in-Some-clause-given c =
    let found = some_lane (lane c.args.lanes.now c.in-Some.name) (c.requires.there c.in-Some.name c.in-Some.is) in
    subst (λ (o : Option LaneName). IsLaneFor o c.args.lanes.now c.join.new.self c.in-Some.name) (sym c.in-Some.is)
    (refl, record { before = found.0; found = found.1; joins = c.join.ensures.joins found.0 found.1 })
