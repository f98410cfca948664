use Rattle.rx_ground.proofs.MarksMakeNothingDue.{projection_undue, remarks_undue}
use Rattle.rx_ground.proofs.TiedWhileSettling.{found_marked}
use Rattle.rx_ground.proofs.route.mark_at.Goals as goal
use Rattle.std.proofs.Common.{rules}

pub returns-in-Projection : goal.returns-in-Projection
returns-in-Projection g c = search (rules, remarks_undue, projection_undue)

pub returns-in-Firing : goal.returns-in-Firing
returns-in-Firing g c = search (rules, found_marked)
