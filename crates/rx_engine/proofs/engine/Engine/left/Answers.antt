use Rattle.std.proofs.Common.{IfSome, IfNone, ◌<◌, ◌≤◌, subst}
use Rattle.rx_lanes.specs.declared.names.LaneName.{LaneName}
use Rattle.rx_lanes.specs.State.{IsLeft}
use Rattle.rx_engine.specs.States.{State}
use Rattle.rx_engine.proofs.engine.Engine.left.Goals as goal

pub returns-clause-first : goal.returns-clause-first
returns-clause-first c =
    subst (λ (s : State). IfSome c.left.result (λ (name : LaneName). (other : LaneName) → IsLeft s.parts.lanes other → c.args.from ≤ other.place →
    name.place ≤ other.place)) c.self.view_is c.left.ensures.first

pub returns-clause-end : goal.returns-clause-end
returns-clause-end c =
    subst (λ (s : State). IfNone c.left.result ((other : LaneName) → IsLeft s.parts.lanes other → other.place < c.args.from)) c.self.view_is c.left.ensures.end
