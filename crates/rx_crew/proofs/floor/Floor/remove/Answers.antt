use Rattle.std.proofs.Common.{refl}
use Rattle.rx_crew.proofs.Ties.{uncounted}
use Rattle.rx_crew.proofs.floor.Floor.remove.Goals as goal

pub invariant_of-self : goal.invariant_of-self
invariant_of-self g c = record { tied = uncounted _ _ _ _ _ c.remove.ensures refl c.args.self.now.tied }
