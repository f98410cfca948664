use Rattle.rx_ground.proofs.Common.{◌≤◌, length, sym, arith, AreHubsOf}
use Rattle.rx_ground.proofs.Connections.{first_by_hand, none_by_hand}
use Rattle.rx_ground.proofs.base.Ground.first_manual.Goals as goal
use Rattle.std.proofs.Common.{rules}

pub returns-then-is_up_by_hand : goal.returns-then-is_up_by_hand
returns-then-is_up_by_hand g c = search (rules, first_by_hand)

pub returns : goal.returns
returns g c = let s = c.self.inside in let of : AreHubsOf s.register.history s.hubs.hubs = rw (← c.self.view_is) at c.requires.standing.tied.published
    in let count = c.len-index-end.ensures in let test = c.loop-index-test.false in let past : length s.hubs.hubs ≤ c.loop-index.index = omega (
      arith,
      count,
      test,
    ) in rw (← c.self.view_is) (sym (none_by_hand s.register.history s.hubs of _ past c.loop-index.invariant.none))
