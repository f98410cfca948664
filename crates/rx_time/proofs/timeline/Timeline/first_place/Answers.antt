use Rattle.std.proofs.Common.{◌++◌, rules}
use Rattle.rx_time.proofs.Next.{PointsAt-append}
use Rattle.rx_time.proofs.TwoLists.{ahead_at}
use Rattle.rx_time.proofs.timeline.Timeline.first_place.Goals as goal

pub returns-clause-next : goal.returns-clause-next
returns-clause-next g c =
    search (rules, PointsAt-append)

pub returns-clause-ahead : goal.returns-clause-ahead
returns-clause-ahead g c =
    let both = c.self.inside.in_order ++ c.self.inside.others in
    let points = PointsAt-append c.self.inside.in_order c.self.inside.others c.first-first.result c.first-other.result
    c.self.invariant.ascending c.first-first.ensures c.first-other.ensures in
    rw (← c.self.view_is, c.earlier_place.ensures) (ahead_at c.self.inside.clock both _ c.self.invariant.ahead points)
