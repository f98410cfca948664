use Rattle.rx_hub.proofs.Common.{◌≡◌, Some, None, slice_get, connect_of, due_of, Hub}
use Rattle.rx_hub.proofs.Common.{unsubscribed}
use Rattle.rx_hub.proofs.DueBySubscribers.{due_left, wait_left}
use Rattle.rx_hub.proofs.HubsByNumber.{find_index, index_below, not_found, linked_changed, at_changed, still_none, others_there}
use Rattle.rx_hub.proofs.hubs.Hubs.leave.Goals as goal
use Rattle.std.proofs.Common.{rules}

pub unreachable-requires : goal.unreachable-requires
unreachable-requires c = search (rules, not_found)

pub unsubscribe-requires-clause-there : goal.unsubscribe-requires-clause-there
unsubscribe-requires-clause-there c = search (rules, find_index)

pub note_unless-self-inside-requires-clause-index : goal.note_unless-self-inside-requires-clause-index
note_unless-self-inside-requires-clause-index c = search (rules, index_below)

pub note_unless-self-inside-requires-clause-unmet : goal.note_unless-self-inside-requires-clause-unmet
note_unless-self-inside-requires-clause-unmet c = λ quiet off. let s = c.self.inside in still_none connect_of s.store _ s.waiting _ _ (unsubscribed _)
    c.in-Some.ensures.some c.unsubscribe.ensures (λ hub got none. wait_left _ hub none) c.self.invariant.waits off

pub note_unless-self-inside-requires-clause-undue : goal.note_unless-self-inside-requires-clause-undue
note_unless-self-inside-requires-clause-undue c = λ quiet off. let s = c.self.inside in let index = c.in-Some.index in let behind : (hub : Hub) → slice_get
    s.store.hubs index ≡ Some hub → due_of hub ≡ None → due_of (unsubscribed _ hub) ≡ None = λ hub got none. due_left _ hub (c.in-Some.ensures.promised.rises
    index hub got) (others_there _ index (unsubscribed _ hub) _ _ (at_changed s.store _ index (unsubscribed _) hub got (c.unsubscribe.ensures hub
    got)) c.first.ensures c.is_some-is_quiet.ensures quiet) none in still_none due_of s.store _ s.due index _ (unsubscribed _)
    c.in-Some.ensures.some c.unsubscribe.ensures behind c.self.invariant.acts off

pub invariant_of-self : goal.invariant_of-self
invariant_of-self c =
    let there = c.in-Some.ensures in
    let noted = c.note_unless-self-inside.ensures in
    linked_changed _ (unsubscribed _) there.promised there.some c.unsubscribe.ensures noted.waits noted.acts noted.empty c.self.invariant
