use Rattle.std.proofs.Common.{IsSome, sym, ap, ◌∙◌, subst}
use Rattle.rx_lanes.specs.State.{lane}
use Rattle.rx_engine.specs.declared.homes.Home.{Home}
use Rattle.rx_engine.specs.States.{State}
use Rattle.rx_engine.specs.Ties.{state_of}
use Rattle.rx_engine.proofs.HomesFound.{home_found}
use Rattle.rx_engine.proofs.engine.Engine.home_below.Goals as goal

pub returns-then-is_open-clause-found : goal.returns-then-is_open-clause-found
returns-then-is_open-clause-found c = λ name there.
    subst (λ (s : State). IsSome (lane s.parts.lanes name)) c.self.view_is
    (home_found (state_of c.self.inside) c.self.invariant c.args.above.number name (sym (ap (λ (h : Home). h.lane) c.home_in.ensures) ∙ there))
