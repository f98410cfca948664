use Rattle.rx_picture.proofs.Common.{arith, marked}
use Rattle.rx_picture.proofs.PointsOfFirstPlaces.{points_more, points_skip}
use Rattle.rx_picture.proofs.points.points_of.Goals.{in-Some+in_ok-push, in_default}
use Rattle.rx_picture.proofs.points.points_of.Goals as goal

pub loop-n-preserved : goal.loop-n-preserved
loop-n-preserved c = elim c.match-point_at.branch [
  | in-Some+in_ok-push w ↦
      rw (w.points-is, w.in_ok-push.ensures.items)
      (points_more c.args.events.now (marked c.args.places.now) c.loop-n.n c.loop-n.points.items w.in-Some.point c.loop-n.invariant w.in-Some.ensures)
  | in_default w ↦
      rw w.points-is
      (points_skip c.args.events.now (marked c.args.places.now) c.loop-n.n c.loop-n.points.items (omega arith) c.loop-n.invariant w.in_default.ensures)
]
