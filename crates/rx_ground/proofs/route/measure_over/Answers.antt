use Rattle.rx_ground.proofs.Common.{ap, Route}
use Rattle.rx_ground.proofs.CountsOnTheWay.{measuring_starts, measuring_on, measuring_ends, measuring_only}
use Rattle.rx_ground.proofs.route.measure_over.Goals as goal
use Rattle.std.proofs.Common.{rules}

pub loop-stop-init : goal.loop-stop-init
loop-stop-init g c = measuring_starts _ _ _ _ _ (c.start.ensures.under_way _ _ c.requires.open c.requires.room) (ap (λ (r : Route). r.room)
    c.start.ensures.started) (c.start.ensures.visits _ _) (c.start.ensures.stops _ _)

pub returns-clause-visits : goal.returns-clause-visits
returns-clause-visits g c = search (rules, measuring_ends)

pub loop-stop-preserved : goal.loop-stop-preserved
loop-stop-preserved g c = search (rules, measuring_on)

pub returns-clause-only : goal.returns-clause-only
returns-clause-only g c = search (rules, measuring_only)
