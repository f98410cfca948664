use Rattle.rx_hub.proofs.Common.{disconnected}
use Rattle.rx_hub.proofs.HubsByNumber.{index_below, not_found, linked_changed}
use Rattle.rx_hub.proofs.hubs.Hubs.disconnect.Goals as goal
use Rattle.std.proofs.Common.{rules}

pub unreachable-requires : goal.unreachable-requires
unreachable-requires c = search (rules, not_found)

pub note-self-inside-requires-clause-index : goal.note-self-inside-requires-clause-index
note-self-inside-requires-clause-index c = search (rules, index_below)

pub invariant_of-self : goal.invariant_of-self
invariant_of-self c = let s = c.self.inside in linked_changed _ (disconnected _) c.in-Some.ensures.promised c.in-Some.ensures.some c.disconnect.ensures
    c.note-self-inside.ensures.waits c.note-self-inside.ensures.acts c.note-self-inside.ensures.empty c.self.invariant
