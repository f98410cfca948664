use Rattle.rx_ground.specs.Ties.{AreTied}
use Rattle.rx_ground.proofs.HubsAfterEvent.{hub_known}
use Rattle.rx_ground.proofs.base.Ground.published.Goals as goal
use Rattle.std.proofs.Common.{rules}

pub returns-clause-some : goal.returns-clause-some
returns-clause-some g c = search (rules, hub_known)

pub returns-clause-none : goal.returns-clause-none
returns-clause-none g c =
    let h = c.self.inside.register.history in
    let hubs = c.self.inside.hubs in
    let tied : AreTied c.self.inside.register.base g.R.Resource h c.self.inside.tree hubs = rw (← c.self.view_is) at c.requires.standing.tied in
    rw (← c.self.view_is) (hub_known h hubs.hubs tied.published c.args.hub c.get.result c.get.ensures).1
