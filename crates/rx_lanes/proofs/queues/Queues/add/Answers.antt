use Rattle.std.proofs.Common.{◌∙◌, ap, map}
use Rattle.rx_lanes.specs.Chains.{queue_in}
use Rattle.rx_lanes.proofs.QueuesShown.{shows_added}
use Rattle.rx_lanes.proofs.queues.Queues.add.Goals as goal

pub returns-clause-queues : goal.returns-clause-queues
returns-clause-queues g c =
    let i = c.self.inside in
    rw (← c.self.view_is) (ap (map (queue_in i.blank i.cells.items i.next.items)) c.push_reserved.ensures.items ∙
    shows_added i.blank i.cells.items i.next.items i.ends.items)
