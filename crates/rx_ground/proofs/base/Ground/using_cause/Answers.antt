use Rattle.rx_ground.proofs.Common.{refl}
use Rattle.rx_ground.proofs.Told.{placed_first}
use Rattle.rx_ground.proofs.base.Ground.using_cause.Goals as goal

pub returns-in-Some : goal.returns-in-Some
returns-in-Some g c = placed_first c.args.self.now _ c.args.place _ refl refl refl refl refl c.in-Some.ensures.some
