use Rattle.rx_crew.proofs.Ties.{counted}
use Rattle.rx_crew.proofs.floor.Floor.take.Goals as goal

pub invariant_of-self-2 : goal.invariant_of-self-2
invariant_of-self-2 g c = record { tied = counted _ _ _ _ _ c.in_ok-handed.ensures.accepted c.args.self.now.tied c.add_taken.ensures.sums }
