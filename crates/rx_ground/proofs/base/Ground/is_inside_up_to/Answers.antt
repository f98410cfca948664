use Rattle.rx_ground.proofs.InsideConnections.{climb_ends, climb_on, climb_nearer}
use Rattle.rx_ground.proofs.base.Ground.is_inside_up_to.Goals as goal
use Rattle.std.proofs.Common.{rules}

pub returns-then-is_connection_up_to : goal.returns-then-is_connection_up_to
returns-then-is_connection_up_to g c = search (rules, climb_ends)

pub loop-at-smaller : goal.loop-at-smaller
loop-at-smaller g c = search (rules, climb_nearer)

pub loop-at-preserved : goal.loop-at-preserved
loop-at-preserved g c = search (rules, climb_on)
