use Rattle.rx_hub.proofs.Common.{◌≡◌, Option, Some, option_map, same_Some, sym, subst, ap, arith, Hub, Published, IsSteady}
use Rattle.rx_hub.proofs.Common.{◌∙◌, connect_of, due_of, published_of, subscribed}
use Rattle.rx_hub.proofs.DueBySubscribers.{steady_waits_not, steady_due_not}
use Rattle.rx_hub.proofs.Laws.Walks.{hub_at}
use Rattle.rx_hub.proofs.HubsByNumber.{find_index, index_below, linked_changed, still_none}
use Rattle.rx_hub.proofs.hubs.Hubs.subscribe.Goals as goal
use Rattle.std.proofs.Common.{rules}

pub at-requires : goal.at-requires
at-requires c = search (rules, hub_at)

pub subscribe-requires-clause-hub : goal.subscribe-requires-clause-hub
subscribe-requires-clause-hub c = search (rules, hub_at)

pub subscribe-requires-clause-newest : goal.subscribe-requires-clause-newest
subscribe-requires-clause-newest c = search (rules, find_index)

pub note_unless-self-inside-requires-clause-index : goal.note_unless-self-inside-requires-clause-index
note_unless-self-inside-requires-clause-index c =
    let below = index_below c.self.inside.store.hubs c.args.index c.args.hub (rw (← c.self.view_is) at c.requires.there) in
    let fit = c.self.invariant.fit in omega (arith, below, fit)

-- the hub is the one that was looked at
steady : (o : Option Hub) (p : Published) (hub : Hub) → option_map published_of o ≡ Some p → o ≡ Some hub → IsSteady p → IsSteady (published_of hub)
steady o p hub read got is =
    subst IsSteady (same_Some p (published_of hub) (sym read ∙ ap (option_map published_of) got)) is

pub note_unless-self-inside-requires-clause-unmet : goal.note_unless-self-inside-requires-clause-unmet
note_unless-self-inside-requires-clause-unmet c = λ quiet off. let s = c.self.inside in still_none connect_of s.store _ s.waiting _ _ (subscribed _)
    (rw (← c.self.view_is) at c.requires.there) c.subscribe.ensures
    (λ hub got none. steady_waits_not _ hub (steady _ _ hub c.at.ensures got (c.is_steady-is_quiet.ensures quiet))) c.self.invariant.waits off

pub note_unless-self-inside-requires-clause-undue : goal.note_unless-self-inside-requires-clause-undue
note_unless-self-inside-requires-clause-undue c = λ quiet off. let s = c.self.inside in still_none due_of s.store _ s.due _ _ (subscribed _)
    (rw (← c.self.view_is) at c.requires.there) c.subscribe.ensures
    (λ hub got none. steady_due_not _ hub (steady _ _ hub c.at.ensures got (c.is_steady-is_quiet.ensures quiet))) c.self.invariant.acts off

pub invariant_of-self : goal.invariant_of-self
invariant_of-self c = linked_changed _ (subscribed _) c.promise.ensures (rw (← c.self.view_is) at c.requires.there) c.subscribe.ensures
    c.note_unless-self-inside.ensures.waits c.note_unless-self-inside.ensures.acts c.note_unless-self-inside.ensures.empty c.self.invariant
