-- The names that most proofs here cite, passed on from one place. Declares nothing.
pub use Rattle.rx_event.proofs.Laws.Common.{◌∙◌, length, arith, sym, ◌≡◌, ap, ℕ, false, refl, ◌<◌, true, List, Some, Bool, ◌+◌, [], ◌∷◌, ◌≤◌, suc, None, ◌++◌}
pub use Rattle.rx_event.proofs.Laws.Common.{inl, inr, ◌⊎◌, false≢true, is_open, Option, nothing_kept, slice_get, option_map_or, zero, at, cond, none-some}
pub use Rattle.rx_event.proofs.Laws.Common.{both_ways, ◌&&◌, ◌-◌, cases_order, IsLawful, ◌||◌, option_and_then, cases_Bool, list_any, and_parts, eq-eqb}
pub use Rattle.rx_event.proofs.Laws.Common.{same_Some, take, nat_lt, sum_by, length-append, drop, ◌==◌, eqb-true, MayFollow, not, ◌≢◌, false_from_ne_true}
pub use Rattle.rx_event.proofs.Laws.Common.{and_from, is_subscriber_of, places, sum_by-cons, ltb-true, lt-ltb, is_connect_of, marks_of, and_false, IsTrue, ◌*◌}
pub use Rattle.rx_event.proofs.Laws.Common.{IsConnectDue, range_with_len, slice_get_within, IsSettled, or_cases, not-true, count_by, terminal_due, or_false}
pub use Rattle.rx_event.proofs.Laws.Common.{makes_hub, ne_eqb, owed, subst, IsAllowed, makes_resource, makes_lease, is_switch, shuts, or_true, or_right}
pub use Rattle.rx_event.proofs.Laws.Common.{is_open_child_of, open_subscribers, IsDue, connecting, due, SourceEnded, option_or, hub_subscribed, is_source_of, ℤ}
pub use Rattle.rx_event.proofs.Laws.Common.{is_inner_of, makes_node, is_switched_inner, cases_lt, is_auto_hub, open_nodes, left, option_map, due_at, cut}
pub use Rattle.rx_event.proofs.Laws.Common.{IsForced, Stop, is_firing_of, is_projection_to, filter, parent_named, if_less, is_merging, IsHubbed, list_all}
pub use Rattle.rx_event.proofs.Laws.Common.{ancestors, and_true}
unfoldable pub use Rattle.rx_event.proofs.Laws.Common.{parent, leases_of, open_children, climb, visits, most_visits}
pub use Rattle.std.proofs.Common.{get_or, set, get_or-set_other, get_or-set_same, ◌↔◌, nat_le, replicate, add-zero, take-append-drop, ⊎_elim}
pub use Rattle.std.proofs.Math.ListN.{length-set}
pub use Rattle.std.proofs.Math.Nat.{mul-le-mul_left}
pub use Rattle.std.proofs.lemmas.Bool.{not_from_false, or_left, le-leb, leb-true, cases_eq}
pub use Rattle.std.proofs.lemmas.List.{get_or_read, length-replicate}
pub use Rattle.std.proofs.lemmas.List.FromFn.{length-range_with_len}
pub use Rattle.std.proofs.lemmas.List.Sums.{sum_by_more, sum_by-append}
pub use Rattle.std.proofs.lemmas.Option.{option_and_then_some}
pub use Rattle.std.proofs.lemmas.Result.{IfOk-weaker}
pub use Rattle.std.specs.Bool.{MatchBool}
pub use Rattle.std.specs.Prelude.{is_some}
pub use Rattle.rx_audit.specs.DueList.{Keeps, IsLostNoted, HasAll}
unfoldable pub use Rattle.rx_audit.specs.DueList.{acts}
pub use Rattle.rx_audit.specs.Flow.{IsReached, times, IsOften, flow}
pub use Rattle.rx_audit.specs.Found.{AreListsFound, IsClimbed}
pub use Rattle.rx_audit.specs.HubTables.{AreHubs, AreLinked, on_list, AreOpenListed, number_by_word, IsRow, AreLetGo}
pub use Rattle.rx_audit.specs.Latest.{last_below, keyed, IsNoted, table_with, IsClosingBelow, AreClosed, inner_named_at, AreChildren, link_with}
pub use Rattle.rx_audit.specs.Marking.{IsVisited, IsUntouched, due_made, IsCovered, leaf_of, touched_by, ends_so, IsKept, visited_marks, fired_key}
pub use Rattle.rx_audit.specs.Marking.{projected_key}
unfoldable pub use Rattle.rx_audit.specs.Marking.{node_due}
pub use Rattle.rx_audit.specs.Rules.{names_number, hub_connected_at, hub_subscribed_at, any_has_key, open_connected, hub_ended, hub_ended_at, open_subscribed}
pub use Rattle.rx_audit.specs.Rules.{open_waiting, joins, ends_source}
unfoldable pub use Rattle.rx_audit.specs.Rules.{is_disconnected, stays_open, any_connect_due, close_due, connect_due}
pub use Rattle.rx_audit.specs.Standing.{IsFollowed, IsKnown}
pub use Rattle.rx_audit.specs.Tables.{IsMarked, mark_count, marks_with, counts_with, counts_less}
pub use Rattle.rx_audit.specs.declared.advance.Nodes.{Nodes}
pub use Rattle.rx_audit.specs.declared.children.Children.{Children}
pub use Rattle.rx_audit.specs.declared.hubs.Hubs.{Hubs}
pub use Rattle.rx_audit.specs.declared.reach.Visit.{Visit}
pub use Rattle.rx_audit.specs.declared.subscribers.Subscribers.{Subscribers}
pub use Rattle.rx_event.proofs.Laws.Connections.{last_connection}
pub use Rattle.rx_event.proofs.Laws.Hubs.{subscriber_hub}
pub use Rattle.rx_event.proofs.Laws.InOrder.{subscribed_event, connected_event}
pub use Rattle.rx_event.proofs.Laws.Lawful.{may_end}
pub use Rattle.rx_event.proofs.Laws.Openness.{is_open_within, is_open_past, open_old, list_any-same, parent_open, is_open_step}
pub use Rattle.rx_event.proofs.Laws.Parents.{ancestors_step, parent-lt, parent_within}
pub use Rattle.rx_event.proofs.Laws.Places.{at_within, slice_get_last, at-append, slice_get-append}
pub use Rattle.rx_event.proofs.Laws.Stands.{event_at}
pub use Rattle.rx_event.specs.Allowed.{IsFree, accepted}
pub use Rattle.rx_event.specs.Claims.Connections.{falling}
pub use Rattle.rx_event.specs.Climb.{stop_at, visited, onward}
pub use Rattle.rx_event.specs.Events.{returned_of, hub_connected, removed_of, taken_of, inner_named}
pub use Rattle.rx_event.specs.Marks.{blank_marks, after_source, after_notifier, after_inner, after_decline, after_child}
pub use Rattle.rx_event.specs.Sames.{same_terminal}
pub use Rattle.rx_event.specs.Tree.{has_open_child, hubs}
pub use Rattle.rx_event.specs.declared.event.Event.{Event}
pub use Rattle.rx_event.specs.declared.event.Event.TheVariants.{Open, End, Connect, Close, Item, Decline, Lease, Return, Accept}
pub use Rattle.rx_event.specs.declared.event.Kind.{Kind}
pub use Rattle.rx_event.specs.declared.event.Kind.TheVariants.{Sub, Pass, Leaf, Flat, Switch}
pub use Rattle.rx_event.specs.declared.event.Place.{Place}
pub use Rattle.rx_event.specs.declared.event.Place.TheVariants.{Root, Source, Inner, Notifier}
pub use Rattle.rx_event.specs.Marks.{Marks}
pub use Rattle.rx_note.specs.declared.note.Terminal.{Terminal}
pub use Rattle.rx_note.specs.declared.note.Terminal.TheVariants.{Completed, Error}
