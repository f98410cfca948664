use Rattle.std.proofs.Common.{◌∙◌, arith}
use Rattle.rx_lanes.specs.Lane.{Lane, kept, given_up}
use Rattle.rx_roles.specs.declared.effect.Effect.{Effect}
use Rattle.rx_engine.specs.Ties.{state_of}
use Rattle.rx_engine.proofs.LanesServed.{kept_many, given_up_many, served_many, tied_served}
use Rattle.rx_engine.proofs.engine.Engine.give_up.Goals as goal

pub invariant_of-self : goal.invariant_of-self
invariant_of-self c =
    tied_served (state_of c.self.inside) c.give_up.new.self c.self.invariant
    (served_many c.self.inside.parts.lanes c.give_up.new.self c.args.name (λ (l : Lane Effect). kept (given_up c.args.by c.args.undone l))
    c.give_up.ensures.gives_up c.give_up.ensures.gone
    (λ (l : Lane Effect). kept_many (given_up c.args.by c.args.undone l) ∙ given_up_many c.args.by c.args.undone l))
    (let s = c.give_up.ensures.spare in omega (arith, s))
