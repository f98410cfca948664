use Rattle.rx_ground.proofs.TiedWhileSettling.{IsOnTheWay}
use Rattle.rx_ground.proofs.base.Ground.settle_all.Given as goal

abbrev pub invariant-loop-due : goal.invariant-loop-due
invariant-loop-due g l = record { way : IsOnTheWay g.R.Resource l.fn.self l.self }

abbrev pub decreases-loop-due : goal.decreases-loop-due
decreases-loop-due g l = l.self.register.room
