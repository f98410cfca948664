use Rattle.rx_ground.proofs.Common.{refl, sym, ap, ◌∙◌, debt, Ground}
use Rattle.rx_ground.proofs.StandsAfterCheckpoint.{settled_quiet_hubs}
use Rattle.rx_ground.proofs.CheckpointMakesBase.{checkpoint_made, standing_after}
use Rattle.rx_ground.proofs.base.Ground.checkpoint.Goals as goal
use Rattle.std.proofs.Common.{rules}

pub forget_ends-requires : goal.forget_ends-requires
forget_ends-requires g c = search (rules, settled_quiet_hubs)

pub returns-clause-standing : goal.returns-clause-standing
returns-clause-standing g c = standing_after c.self.view_is c.promise.ensures.register c.requires.standing (checkpoint_made c.in_ok-rebase.ensures.ok
    (c.load-load.ensures.load.debt ∙ ap (λ (b : Ground _). debt b.register.base b.register.history) (sym c.self.view_is))
    refl c.forget_ends.ensures refl refl refl)
