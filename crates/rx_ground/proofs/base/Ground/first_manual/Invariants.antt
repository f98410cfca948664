use Rattle.rx_ground.proofs.Connections.{NoneBefore}
use Rattle.rx_ground.proofs.base.Ground.first_manual.Given as goal

abbrev pub invariant-loop-index : goal.invariant-loop-index
invariant-loop-index g l = record {
  none : NoneBefore l.self-inside.register.history l.self-inside.hubs.hubs l.index;
}
