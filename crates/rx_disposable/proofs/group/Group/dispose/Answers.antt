use Rattle.std.proofs.Common.{ap, ◌∙◌}
use Rattle.rx_disposable.proofs.Places.{kept_disposed}
use Rattle.rx_disposable.proofs.group.Group.dispose.Goals as goal

pub invariant_of-self : goal.invariant_of-self
invariant_of-self g c =
    kept_disposed _ _ _ _ c.self.invariant (ap (λ group. group.members) (c.self.view_is ∙ c.clear-members.ensures.rest))
