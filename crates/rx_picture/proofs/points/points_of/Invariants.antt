use Rattle.rx_picture.proofs.Common.{marked}
use Rattle.rx_picture.proofs.PointsOfFirstPlaces.{PointsUpTo}
use Rattle.rx_picture.proofs.points.points_of.Given as goal

abbrev pub invariant-loop-n : goal.invariant-loop-n
invariant-loop-n l = PointsUpTo l.events (marked l.places) l.n l.points.items
