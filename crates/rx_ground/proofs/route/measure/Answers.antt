use Rattle.rx_ground.proofs.Common.{◌∙◌}
use Rattle.rx_ground.proofs.CountsOnTheWay.{arrived_alone, too_far, visits_past, visits_within}
use Rattle.rx_ground.proofs.route.measure.Goals as goal
use Rattle.std.proofs.Common.{rules}

pub returns-in-Some-clause-reach : goal.returns-in-Some-clause-reach
returns-in-Some-clause-reach g c =
    let reach = c.climb-reached.ensures in
    let more = c.reach_at-more.ensures in
    (arrived_alone c.args.tree.now.nodes c.args.hubs.now.hubs c.args.node _ c.in-Some.stop _ _ c.in-Some.ensures reach.visits reach.stop
    more.events more.notes).reach

pub returns-in-Some-clause-only : goal.returns-in-Some-clause-only
returns-in-Some-clause-only g c =
    let reach = c.climb-reached.ensures in
    let more = c.reach_at-more.ensures in
    (arrived_alone c.args.tree.now.nodes c.args.hubs.now.hubs c.args.node _ c.in-Some.stop _ _ c.in-Some.ensures reach.visits reach.stop
    more.events more.notes).only

pub returns-in-Some-clause-visits : goal.returns-in-Some-clause-visits
returns-in-Some-clause-visits g c =
    let reach = c.climb-reached.ensures in
    let more = c.reach_at-more.ensures in
    (arrived_alone c.args.tree.now.nodes c.args.hubs.now.hubs c.args.node _ c.in-Some.stop _ _ c.in-Some.ensures reach.visits reach.stop
    more.events more.notes).visits

pub returns-then-reached-gt-MOST_VISITS-clause-visits : goal.returns-then-reached-gt-MOST_VISITS-clause-visits
returns-then-reached-gt-MOST_VISITS-clause-visits g c = too_far _ _ _ _ c.climb-reached.ensures.visits c.if-reached-gt-MOST_VISITS.true

pub returns-then-visits-gt-MOST_VISITS-clause-visits : goal.returns-then-visits-gt-MOST_VISITS-clause-visits
returns-then-visits-gt-MOST_VISITS-clause-visits g c = visits_past _ _ (c.visits.ensures ∙ c.measure_over-way.ensures.visits) c.if-visits-gt-MOST_VISITS.true

pub returns-else-visits-gt-MOST_VISITS-clause-visits : goal.returns-else-visits-gt-MOST_VISITS-clause-visits
returns-else-visits-gt-MOST_VISITS-clause-visits g c = search (rules, visits_within)
