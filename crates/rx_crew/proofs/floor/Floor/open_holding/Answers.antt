use Rattle.std.proofs.Common.{refl}
use Rattle.rx_crew.proofs.Ties.{counted}
use Rattle.rx_crew.proofs.floor.Floor.open_holding.Goals as goal

pub invariant_of-self-2 : goal.invariant_of-self-2
invariant_of-self-2 g c =
    let o = c.in_ok-holding.ensures.ok in
    record {
      tied =
          counted o.middle _ _ _ _ o.holds (counted _ o.middle _ c.args.self.now.ledgers c.args.self.now.ledgers o.opens c.args.self.now.tied refl)
          c.add_accepted.ensures.sums;
    }
