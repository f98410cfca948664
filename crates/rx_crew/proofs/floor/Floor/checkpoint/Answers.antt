use Rattle.rx_crew.proofs.Ties.{rebased}
use Rattle.rx_crew.proofs.floor.Floor.checkpoint.Goals as goal

pub invariant_of-self : goal.invariant_of-self
invariant_of-self g c = record { tied = rebased _ _ _ _ c.checkpoint.ensures c.args.self.now.tied }
