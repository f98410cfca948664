use Rattle.std.proofs.Common.{◌∙◌, arith}
use Rattle.rx_lanes.specs.Lane.{Lane, kept, taken}
use Rattle.rx_roles.specs.declared.effect.Effect.{Effect}
use Rattle.rx_engine.specs.Ties.{state_of}
use Rattle.rx_engine.proofs.LanesServed.{kept_many, taken_many, served_many, tied_served}
use Rattle.rx_engine.proofs.engine.Engine.take.Goals as goal

pub invariant_of-self : goal.invariant_of-self
invariant_of-self c =
    tied_served (state_of c.self.inside) c.take.new.self c.self.invariant
    (served_many c.self.inside.parts.lanes c.take.new.self c.args.name (λ (l : Lane Effect). kept (taken c.args.by c.args.inside l).lane) c.take.ensures.takes
    c.take.ensures.gone
    (λ (l : Lane Effect). kept_many (taken c.args.by c.args.inside l).lane ∙ taken_many c.args.by c.args.inside l))
    (let s = c.take.ensures.spare in omega (arith, s))
