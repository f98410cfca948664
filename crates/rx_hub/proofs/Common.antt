-- The names that most proofs here cite, passed on from one place. Declares nothing.
pub use Rattle.std.proofs.Common.{Some, None, Option, IfSome, IsSome, is_some, true≢false, vec_capacity, get_or, is_none, length-set, IfNone, set, reverse}
pub use Rattle.std.proofs.Common.{get_or-set_other, get_or-set_same, zero-add, ◌/◌}
pub use Rattle.rx_event.proofs.Laws.Common.{sym, ◌∙◌, ap, ◌≡◌, arith, List, subst, ℕ, length, refl, [], ◌∷◌, slice_get, true, ◌<◌, false, none-some, suc, ◌≤◌}
pub use Rattle.rx_event.proofs.Laws.Common.{option_map, same_Some, ◌++◌, Bool, option_map_or, zero, option_and_then, cond, false≢true, Kept, at, map, ◌&&◌}
pub use Rattle.rx_event.proofs.Laws.Common.{option_or, option_to_list, ◌-◌, ◌==◌, is_subscriber_of, AllByRecursion, if◌then◌else◌, inl, inr, ◌+◌, IsLawful}
pub use Rattle.rx_event.proofs.Laws.Common.{and_parts, filter_map, ◌⊎◌, places, ◌||◌, cons_option, filter, is_connect_of, length-append, list_any, MayFollow}
pub use Rattle.rx_event.proofs.Laws.Common.{open_subscribers, makes_hub, min, nat_lt, slice_get_within, take, ◌≢◌, append-nil, eq-eqb, eqb-true, is_within}
pub use Rattle.rx_event.proofs.Laws.Common.{open_connections, range_with_len, IsConnected, IsDue, IsForced, IsSettled, SourceEnded, both_ways, cases_lt, drop}
pub use Rattle.rx_event.proofs.Laws.Common.{cases_order, due_at, if_less, is_merging, length-map, makes_node, parent_named, rules, IsConnectDue, and_from}
pub use Rattle.rx_event.proofs.Laws.Common.{connecting, cut, due, hub_subscribed, is_auto_hub, left, map-append, marks_of, or_cases, or_right, terminal_due}
unfoldable pub use Rattle.rx_event.proofs.Laws.Common.{is_open, most_visits, parent}
pub use Rattle.std.proofs.{Math.Bool.not, Math.Seq.take-suc, lemmas.Bool.cases_eq, lemmas.Bool.Decides.nat_tests, lemmas.List.Elements.filter_map-append}
pub use Rattle.std.proofs.lemmas.{List.get_or_past, List.length-reverse, List.reverse-append, Option.slice_get-map, Result.IfOk-weaker, Result.on_ok_weaker}
pub use Rattle.rx_event.proofs.Laws.Hubs.{at_connect, hubs_in_order, may_connect, may_subscribe, connection_hub, may_connect_hub, subscriber_hub}
pub use Rattle.rx_event.proofs.Laws.{Lawful.ended_after, Lawful.may_end, Lists.first_passes, Lists.filtered, Lists.AllByRecursion-both, Lists.filter_nonempty}
pub use Rattle.rx_event.proofs.Laws.{OpenAfter.open_of, Places.cases_push, Places.slice_get-append, Places.slice_get_last, Places.at-append, Places.at_within}
pub use Rattle.rx_event.proofs.Laws.Openness.{is_open_within, is_open_outside-end, is_open_kept, is_open_outside-close, shuts_none}
pub use Rattle.rx_event.{proofs.Laws.Switches.is_open-inner_switch, proofs.Laws.Totals.is_within_self, specs.Claims.Nodes.IsOpenInner, specs.Marks.first_some}
pub use Rattle.rx_event.specs.{Events.hub_connected, Events.is_connect, declared.event.Event.Event, declared.event.Kind.Kind, declared.event.Mode.Mode}
pub use Rattle.rx_event.specs.declared.event.{Event.TheVariants.Connect, Event.TheVariants.Open, Event.TheVariants.End, Event.TheVariants.Close, Place.Place}
pub use Rattle.rx_event.specs.declared.event.Kind.TheVariants.{Sub, Flat, Leaf, Pass, Switch, Until}
pub use Rattle.rx_event.specs.declared.{event.Mode.TheVariants.Auto, event.Mode.TheVariants.Manual}
pub use Rattle.rx_event.specs.Marks.{Marks}
pub use Rattle.rx_event.specs.declared.event.Place.TheVariants.{Inner, Notifier, Root, Source}
pub use Rattle.rx_hub.specs.Hubs.{Hub, Hubs, find_hub, at_hub, subscribed, disconnected, unsubscribed, IsPromised, connected, published_of, AreBelow, new_hub}
pub use Rattle.rx_hub.specs.Hubs.{AreAbove, Rises, ended_never, with_published, without_end, without_key, IsFree, key_after, last_from, hub_as_kept, hub_of}
pub use Rattle.rx_hub.specs.Route.{Route, beyond_end, GoesOn, IsOrdered, ReachesFrom, IsBehind, IsUnderWay, after_frames, hub_keys, stops_left, todo, IsFrame}
pub use Rattle.rx_hub.specs.Route.{visits_left, AreFrames, frame_keys, keys_from}
pub use Rattle.rx_hub.specs.After.{end_by, is_gone_after, next_key, hubs_after, with_made, AgreeAt, ClosesNone, is_inside, joins_hubs}
pub use Rattle.rx_hub.specs.{Chains.AreEmpty, Chains.IsSteady, Chains.IsCalm, Chains.IsChain, Chains.IsLinked}
pub use Rattle.rx_hub.specs.{Chains.IsAt, Chains.Notes, Claims.SubscribesInside, TreeClaims.numbered}
pub use Rattle.rx_hub.specs.Closing.{without_gone, remaining, after_closing, IsKnown, AreClosing, is_closed}
pub use Rattle.rx_hub.specs.Due.{due_of, connect_of, IsQuiet, NoneWaits, cut_of, is_auto, is_cut, left_of, IsDueIn, acts, connects}
pub use Rattle.rx_hub.specs.{Operators.IsChained, Operators.from_due, Rules.given_by, Rules.connect_by, Rules.cut_by, Rules.due_by, TreeRecords.AreRecordsOf}
pub use Rattle.rx_hub.specs.Records.{numbers, IsHubOf, AreHubsOf, HasHub, EndsConnection, IsUpTo}
pub use Rattle.rx_hub.specs.{Store.IsKept, Store.hubs_in, Store.key_in, Store.record_at, Store.hub_in, Store.no_hub, declared.forcing.Rule.Rule}
pub use Rattle.rx_hub.specs.Walk.{arrival, arrival_at, visited_over, onward_by, onward_over, IsWalk, beyond, climb_over, stops_over, subscribers_of}
pub use Rattle.rx_hub.specs.Way.{end_of, above_of, stop_of, way, way_within, made_of, onward_of, stop_made, if_merging}
pub use Rattle.rx_hub.specs.declared.{hub.HubDue.HubDue, hub.LastEnd.LastEnd, hub.Published.Published, operators.Due.Due, route.Frame.Frame, stop.Stop.Stop}
pub use Rattle.rx_hub.specs.declared.stop.Stop.TheVariants.{Connection, Delivery, Firing, Projection}
pub use Rattle.rx_slots.specs.Lists.{Lists, list_at, is_in, head_of, take_out}
pub use Rattle.rx_note.specs.declared.note.Terminal.{Terminal}
pub use Rattle.rx_slots.specs.{Slots.Slots, Slots.find, declared.Key.Key}
pub use Rattle.rx_tree.proofs.Laws.{Keys.key_is, Keys.some_of, Keys.same_key, Keys.cases_key, Parents.named_parent}
pub use Rattle.rx_tree.specs.{Closing.Closed, declared.node.Node.Node}
pub use Rattle.rx_tree.specs.Tree.{is_on, is_key, first_of, IsSound, named_above, Rewrites, Tree, parent_number, with_marks}
