use Rattle.rx_ground.proofs.Common.{◌≡◌, false, refl}
use Rattle.rx_event.specs.Causes.{is_without_hub}
use Rattle.rx_ground.proofs.Told.{placed_first}
use Rattle.rx_ground.proofs.base.Ground.opening_cause.Goals as goal
use Rattle.std.proofs.Common.{rules}

pub returns-in-Some : goal.returns-in-Some
returns-in-Some g c =
    let there : is_without_hub c.args.self.now.register.history c.args.kind ≡ false = search rules in
    placed_first c.args.self.now _ c.args.place _ there refl refl refl refl c.in-Some.ensures.some
