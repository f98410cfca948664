use Rattle.rx_hub.proofs.Common.{◌≡◌, ◌≤◌, arith, rules, length, way, end_of}
use Rattle.rx_hub.proofs.WayWalkedSoFar.{climbing_starts, climbing_on, climbing_top, climbing_stop, climbing_limit, limit_is, free_of, stop_there}
use Rattle.rx_hub.proofs.climbing.climb.Given as given
use Rattle.rx_hub.proofs.climbing.climb.Goals as goal
use Rattle.rx_hub.proofs.climbing.climb.Goals.{then-loop-stop-test+else-visits-le-MOST_VISITS, else-loop-stop-test}

pub loop-stop-init : goal.loop-stop-init
loop-stop-init g c = search (rules, climbing_starts)

pub loop-stop-smaller : goal.loop-stop-smaller
loop-stop-smaller g c = let few : c.loop-stop.visits ≤ 1048576 = c.if-visits-le-MOST_VISITS.true in omega arith

pub loop-stop-preserved : goal.loop-stop-preserved
loop-stop-preserved g c = search (rules, free_of, limit_is, climbing_on)

pub returns-in_default-clause-visits : goal.returns-in_default-clause-visits
returns-in_default-clause-visits g c = search (rules, free_of, climbing_top)

pub returns-in_default-clause-stop : goal.returns-in_default-clause-stop
returns-in_default-clause-stop g c = search (rules, free_of, climbing_top)

-- at the limit there is no stop
ended : (g : given.Over) (c : goal.In_default-stop-2 g) → (c.loop-stop.visits ≡ length (way c.args.tree.now.nodes c.args.node)) ×
    (c.loop-stop.stop ≡ end_of c.args.tree.now.nodes (way c.args.tree.now.nodes c.args.node))
ended g c = search (rules, then-loop-stop-test+else-visits-le-MOST_VISITS, limit_is, climbing_limit, else-loop-stop-test, stop_there, climbing_stop)

pub returns-in_default-stop-2-clause-visits : goal.returns-in_default-stop-2-clause-visits
returns-in_default-stop-2-clause-visits g c = (ended g c).0

pub returns-in_default-stop-2-clause-stop : goal.returns-in_default-stop-2-clause-stop
returns-in_default-stop-2-clause-stop g c = (ended g c).1
