-- The names that most proofs here cite, passed on from one place. Declares nothing.
pub use Rattle.std.proofs.Common.{Some, None, Option, is_some, IsSome, IfSome, vec_capacity, get_or, count_by, IfNone, w64, OnOk, take-append-drop, zero-add}
pub use Rattle.std.proofs.Common.{Err, Ok, OnErr, Result, length-drop, ltb-false}
pub use Rattle.rx_event.proofs.Laws.Common.{◌∙◌, ap, sym, ◌≡◌, refl, List, arith, [], subst, true, ◌∷◌, length, ℕ, ◌+◌, false, Bool, ◌++◌, ◌<◌, Kept, inl, at}
pub use Rattle.rx_event.proofs.Laws.Common.{MayFollow, IsLawful, false≢true, inr, option_map_or, ◌⊎◌, option_map, cond, suc, none-some, ◌-◌, ◌≤◌, ◌≢◌, zero}
pub use Rattle.rx_event.proofs.Laws.Common.{same_Some, slice_get, and_parts, ◌==◌, eq-eqb, both_ways, length-append, list_any, map, places, ne_eqb, IsTrue, ℤ}
pub use Rattle.rx_event.proofs.Laws.Common.{AllByRecursion, cases_Bool, filter_map, nat_lt, option_and_then, and_from, false_from_ne_true, is_merging, lt-ltb}
pub use Rattle.rx_event.proofs.Laws.Common.{makes_resource, IsSettled, eqb-true, is_take_of, marks_of, not-true, option_to_list, range_with_len, sum_by-cons}
pub use Rattle.rx_event.proofs.Laws.Common.{cases_order, cons_option, due_at, makes_hub, makes_node, open_count, parent_named, slice_get_within, drop, ◌*◌}
pub use Rattle.rx_event.proofs.Laws.Common.{is_switch, is_within, length-map, mail_of, terminal_due, IsForcedOn, accepted_count, append-nil, append_assoc}
pub use Rattle.rx_event.proofs.Laws.Common.{connecting, held_count, if_less, if◌then◌else◌, is_inner_of, is_open_child_of, is_return, is_source_of, is_until}
pub use Rattle.rx_event.proofs.Laws.Common.{is_untaken, le-ltb, length-filter, map-append, more, or_parts, rules, stays, take, taken_count, waiting_count}
pub use Rattle.rx_event.proofs.Laws.Common.{Agree, Emitting, IsConnectDue, IsForced, Started, StopsAtOpen, accepted_by, allowed, cases_lt, due, forced, pays}
pub use Rattle.rx_event.proofs.Laws.Common.{has_source, hub_subscribed, is_auto_hub, is_child_of, is_connect_of, is_lease_of, is_manual_hub, is_projection_to}
pub use Rattle.rx_event.proofs.Laws.Common.{is_remove_of, is_return_of, is_root, is_subscriber_of, is_use_of, ltb-true, makes_lease, node_of_accept, or_false}
pub use Rattle.rx_event.proofs.Laws.Common.{notifier_opened, open_connections, open_nodes, option_or, or_right, shuts, source_opened, stops_of}
unfoldable pub use Rattle.rx_event.proofs.Laws.Common.{is_open, debt, most_visits, parent, ancestors, base_of, owed, notes, open_children, shown}
pub use Rattle.std.proofs.{Math.Bool.not, Math.Bool.◌&&◌, Math.Bool.◌||◌, Math.Seq.take-length, lemmas.Bool.not_from_false, lemmas.Bool.ltb_from_iff}
pub use Rattle.std.proofs.lemmas.{Bool.Decides.nat_tests, Int.to_z-of_z, List.Elements.All-contains, List.Elements.All-head, List.Elements.filter_map-append}
pub use Rattle.std.proofs.lemmas.List.{FromFn.length-range_with_len, Kept.AllPairs-cons, Sums.count_by-le-length, Sums.sum_by-append}
pub use Rattle.std.proofs.lemmas.List.Sorted.{Contains-permutation, IsNonDecreasingBy-from_sort_by_key, IsPermutation-map, IsPermutation-sym}
pub use Rattle.std.{proofs.lemmas.Option.get_or_from_slice_get, proofs.lemmas.Option.slice_get-get_or, specs.List.Sorted.IsPermutation}
pub use Rattle.std.specs.List.{Contains, AllPairs, filter, All, IsDistinct}
pub use Rattle.rx_event.proofs.Laws.MarksTouched.{blank_quiet, child_counted, marks-decline_at, marks-end_at, marks-inner_at_first, marks-inner_at_flat}
pub use Rattle.rx_event.proofs.Laws.MarksTouched.{marks-inner_at_next, marks-item_at, marks-notifier_at, marks-source_at, marks_untouched}
pub use Rattle.rx_event.proofs.Laws.Openness.{is_open_within, is_open_cut, shuts_none, is_open_kept, is_open_outside-end, is_open_unchanged, is_cut, open_old}
pub use Rattle.rx_event.proofs.Laws.Openness.{is_open_outside-close, stays_closed, is_cut_inner, parent_open}
pub use Rattle.rx_event.proofs.Laws.Resources.{held_not_taken, held_resource, waiting_parts, is_held_within, is_waiting_within, accepted_by-push, held_is}
pub use Rattle.rx_event.proofs.Laws.Resources.{accepted_by_new, is_owned-push, is_owned-remove, is_owned_last, loses, no_take, node_of, owned_held}
pub use Rattle.rx_event.proofs.Laws.{BaseAgrees.s_leases_of, BaseAgrees.s_resource_at, BaseStarted.base_started, Bases.length-shown, Bases.length_base}
pub use Rattle.rx_event.proofs.Laws.{CheckpointMarks.base_marks, CheckpointMarks.base_settled, Checkpoints.kept_agrees, Checkpoints.same_debt}
pub use Rattle.rx_event.proofs.Laws.{Debt.debt-counts, Hubs.hub_before, LetGo.first_connection, Lists.AllByRecursion-both, MakingRemovesNothing.made_untaken}
pub use Rattle.rx_event.proofs.Laws.Leases.{is_out_within, is_out-push, is_out_last, is_out_past, leases_of_some}
pub use Rattle.rx_event.proofs.Laws.{MarksEnds.marks-end_other, MarksEnds.marks_closed, MarksFound.is_child_parent, MarksNew.marks-new, Plain.owed_plain}
pub use Rattle.rx_event.proofs.Laws.{NothingOpenNothingHeld.out_waits_not, Places.at-append, Places.at_within, Places.slice_get_last, Places.slice_get-append}
pub use Rattle.rx_event.proofs.Laws.Parents.{parent-lt, ancestors_step, parent_name, is_within-le, option_map_or-same, parent_within}
pub use Rattle.rx_event.proofs.Laws.{SameTree.Alike, SameTree.alike_of, Searches.list_any_push, Sound.reads_owned, Sound.sound_of, Sources.one_source}
pub use Rattle.rx_event.proofs.Laws.{Stands.event_at, Stands.notifier_stands, Stands.open_node, Waits.forced_connected, Waits.settled_connected}
pub use Rattle.rx_event.proofs.Laws.Steps.{by_events, may_accept, may_decline, may_emit, may_name, may_open}
pub use Rattle.rx_event.proofs.Laws.Sums.{count_by_one, sum_by-places-push, sum_by-plus, sum_by_no_rise, sum_by_none, sums_balance}
pub use Rattle.rx_event.proofs.Laws.Totals.{is_open_new, accepted_count-parts, uses-push, uses_new}
pub use Rattle.rx_event.specs.{Allowed.taken, Claims.Nodes.IsOpenInner, Forced.none_waits, Forced.MayWait, Moments.is_projection, Notes.told}
pub use Rattle.rx_event.specs.Causes.{has_connection, is_over, checkpoint_causes, connects_up_to, is_taken_place, is_unowed_place, is_wrong_place}
pub use Rattle.rx_event.specs.{Events.named_by, Events.hub_connected, Events.inner_named, Events.source_named, Events.is_leaf, Refusals.first_cause}
pub use Rattle.rx_event.specs.Marks.{Marks, after_child, touches, after_decline, after_notifier, after_source, after_inner}
pub use Rattle.rx_event.specs.{Totals.lease_count, Totals.owed_count, Totals.item_count, Totals.owed_open, Totals.owned_count, Tree.has_open_child, Tree.hubs}
pub use Rattle.rx_event.specs.declared.base.{BaseLease.BaseLease, BaseNode.BaseNode, BaseResource.BaseResource, BaseState.BaseState}
pub use Rattle.rx_event.specs.declared.{event.Event.Event, event.Kind.Kind, event.Mode.Mode, event.Place.Place, mail.Mail.Mail}
pub use Rattle.rx_event.specs.declared.event.Event.TheVariants.{Open, Connect, End, Item, Accept, Close, Lease, Return, Decline, Remove, Take, Use}
pub use Rattle.rx_event.specs.declared.event.Kind.TheVariants.{Sub, Switch, Flat, Pass, Until}
pub use Rattle.rx_event.specs.declared.event.Place.TheVariants.{Source, Notifier, Root, Inner}
pub use Rattle.rx_event.specs.declared.refusal.Refusal.TheVariants.{TooMany, Full, Gone, MailLeft, WrongKind}
pub use Rattle.rx_ground.specs.Ties.{IsTied, AreTied, AreLeased, AreRecords, Remarks, HasKey, IsStored, Cuts, IsStanding, KeepsNodes, AreJoined, KeepsOlder}
pub use Rattle.rx_ground.specs.Ties.{IsNewNode, AreStored, IsNext, IsReady, IsRoomier, IsUndue, KeepsHeld, KeepsLeases, Moves, SetsAside, is_there}
pub use Rattle.rx_ground.specs.Ties.{left_inside, opened_marks, HasRoom, HasRoomBeside, HasRoomToTell, HasRoomToConnect, IsLeaseOf, IsListed, WithChain, key_due}
pub use Rattle.rx_event.specs.Gone.{goes, has_gone}
pub use Rattle.rx_ground.specs.{Checkpoints.IsCheckpoint, Gone.Closes, Gone.Gathers, Gone.GoesFirst, Gone.numbers_of, Memory.TakesNoMemory}
pub use Rattle.rx_ground.specs.Settling.{Settles}
pub use Rattle.rx_ground.specs.Inners.{ClearsHubs, HasNoInner, IsInner, MakesWay, ReplacesNone, Exchanges, LeavesHubs, ListsReplaced, ListsWay}
pub use Rattle.rx_ground.specs.{Leases.lease_key, Leases.is_out_at, Leases.lease_as_kept, Reached.MakesOnly, Reached.IsReach}
pub use Rattle.rx_ground.specs.{LeasesInOrder.AreRising, LeasesInOrder.IsInOrder, LeasesInOrder.number_in, declared.leases.LeaseKey.LeaseKey}
pub use Rattle.rx_ground.specs.Passing.{ArePassed, owed_at, sum_at, told_at, IsMeasured, IsPassing, nodes_at, IsArrived, IsMarkedAt, IsThere, mail_at}
pub use Rattle.rx_ground.specs.{Shown.Ground, Shown.closed_keys, Shown.closed_key, Shown.list_room, declared.route.Reach.Reach, declared.route.Way.Way}
pub use Rattle.rx_ground.specs.Told.{is_inside_up_to, IsHubTold, IsTold, has_place, is_connected_manual, is_unowed, is_used}
pub use Rattle.rx_hub.proofs.Laws.AfterCases.{IsOpenAt, closes_none, hubs_connected, hubs_ended, hubs_exchanged, hubs_published, hubs_stay, hubs_with_made}
pub use Rattle.rx_hub.proofs.Laws.AfterCases.{subscribers_open, tests_agree}
pub use Rattle.rx_hub.proofs.Laws.{AfterAll.hubs_follow, AfterAll.mapped_from, AfterAll.pushed_from, AfterLeft.named_connection, AfterLeft.own_connection}
pub use Rattle.rx_hub.proofs.Laws.{AfterReady.ready_to_connect, AfterReady.ready_to_exchange, AfterReady.ready_to_subscribe, Dues.hubs_forced}
pub use Rattle.rx_hub.proofs.Laws.{DuesInTree.due_at_in, DuesInTree.due_forced, HubsWithoutEnds.forgot_get, HubsWithoutEnds.forgotten_hubs}
pub use Rattle.rx_hub.proofs.Laws.{Orders.IsOrdered-walk, Walks.found_hub, Walks.all_stops_told, Walks.visits_told, Ways.above_found, Ways.stop_of-found}
pub use Rattle.rx_hub.specs.After.{hubs_after, is_inside, with_made, AgreeAt, end_by, joins_hubs, next_key}
pub use Rattle.rx_hub.specs.Closing.{AreClosing, after_closing, without_gone, IsKnown, is_closed, remaining}
pub use Rattle.rx_hub.specs.Due.{IsQuiet, ConcernsHub, IsDueIn, event_of, NoneWaits, acts, connect_of, connects, due_of}
pub use Rattle.rx_hub.specs.Hubs.{Hubs, Hub, find_hub, connected, at_hub, new_hub, without_end, AreBelow, IsFree, disconnected, subscribed}
pub use Rattle.rx_hub.specs.{Operators.IsChained, Records.AreHubsOf, Records.HasHub, Records.IsHubOf, Records.numbers, TreeClaims.numbered}
pub use Rattle.rx_hub.specs.{Route.Route, Route.stops_left, Route.Arrives, Route.IsUnderWay, Route.IsOrdered, Route.all_visits, declared.hub.HubDue.HubDue}
pub use Rattle.rx_hub.specs.{TreeRecords.IsRecordOf, TreeRecords.AreRecordsOf, Way.above_of, Way.made_of, Way.stop_made, Way.stop_of, declared.stop.Stop.Stop}
pub use Rattle.rx_hub.specs.Walk.{stops_over, arrival_at, onward_over, visited_over, IsWalk, arrival, climb_over, onward_by, subscribers_of}
pub use Rattle.rx_hub.specs.declared.{hub.LastEnd.LastEnd, hub.Published.Published, operators.Due.Due, stop.Reached.Reached}
pub use Rattle.rx_hub.specs.declared.stop.Stop.TheVariants.{Connection, Delivery, Firing, Projection}
pub use Rattle.rx_slots.specs.Lists.{Lists, is_in, list_at, take_out, head_of}
pub use Rattle.rx_note.specs.declared.note.Terminal.{Terminal}
pub use Rattle.rx_register.{proofs.Laws.Fits.told_by_end, specs.Paid.IsPaid, specs.State.Writes, specs.State.State, specs.State.IsPromised}
pub use Rattle.rx_register.specs.State.{greatest_limit}
pub use Rattle.rx_resource.specs.declared.{Life.TheVariants.Live, Resource.Ghosts}
pub use Rattle.rx_slots.specs.Slots.{Slots, find, entry_at, with_number, KeepsOthers, entry_of, Changes}
pub use Rattle.rx_slots.specs.declared.{Entry.Entry, Key.Key}
pub use Rattle.rx_tree.specs.Resources.{store_key, is_held, is_held_at, is_lent, is_owned, is_owned_at, one_lease_less, removed, lent_alone_count, stowed_of}
pub use Rattle.rx_tree.specs.Resources.{with_resource, Takes, Uses, is_lent_at, one_lease_more, stowed_at}
pub use Rattle.rx_tree.specs.Tree.{Tree, AreApart, IsSound, Rewrites, is_on, with_due, with_marks, IsPast, blank_node, is_key, parent_number, IsNewest}
pub use Rattle.rx_tree.specs.Tree.{is_due, named_above, HasNone, IsChild, IsFirst, IsPlaced, with_last}
pub use Rattle.rx_tree.proofs.Laws.{FoundAfterWrite.found_entry, FoundAfterWrite.entry_found, Newest.newest_fewer, Owed.owed_in-numbers, Owed.owed_rewritten}
pub use Rattle.rx_tree.proofs.Laws.{Keys.some_of, Keys.cases_key, Keys.key_is, Keys.none_not_some, Keys.same_key, Parents.child_found, Parents.named_parent}
pub use Rattle.rx_tree.specs.{Bases.IsByNumber, Bases.kept_by, Bases.node_as_kept, Bases.resource_as_kept, Bases.state_in, Below.is_below, Owed.owed_in}
pub use Rattle.rx_tree.specs.{Closing.Closed, Closing.IsSubtree, Closing.IsInside, Closing.outside, declared.node.Node.Node, declared.node.ResKey.ResKey}
pub use Rattle.rx_tree.specs.declared.node.Stowed.{Stowed}
