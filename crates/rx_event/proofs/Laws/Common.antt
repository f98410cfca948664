-- The names that most proofs here cite, passed on from one place. Declares nothing.
pub use Rattle.std.proofs.Common.{◌≡◌, ℕ, zero, suc, ◌+◌, ◌-◌, ◌<◌, ◌≤◌, Bool, true, false, cond, not, ◌&&◌, ◌||◌, ◌⊎◌, List, [], ◌∷◌, ◌++◌, map, length}
pub use Rattle.std.proofs.Common.{take, drop, ℤ, pos, nat_lt, ◌==◌, slice_get, Some, None, filter, Option, sym, refl, ap, ◌∙◌, subst, inl, inr, append_assoc}
pub use Rattle.std.proofs.Common.{append-nil, arith, length-append, IsTrue, if◌then◌else◌, option_map, ◌≢◌, min, rules, ◌*◌}
pub use Rattle.std.proofs.lemmas.Bool.{false≢true, both_ways, eqb-true, lt-ltb, eq-eqb, ne_eqb, cases_lt, and_parts, cases_order, cases_Bool, or_cases}
pub use Rattle.std.proofs.lemmas.Bool.{and_from, false_from_ne_true, ltb-true, or_right, or_parts, le-ltb, not-true}
pub use Rattle.std.proofs.lemmas.Grind.{common_steps}
pub use Rattle.std.proofs.lemmas.List.{length-take-le, length-map, map-append}
pub use Rattle.std.proofs.lemmas.List.Folds.{list_any-append}
pub use Rattle.std.proofs.lemmas.List.Sums.{sum_by-cons, sum_by_push, length-filter}
pub use Rattle.std.proofs.lemmas.Option.{none-some, same_Some, slice_get_within, slice_get_past, cond_some}
pub use Rattle.std.specs.List.{count_by, list_any, range_with_len, AllByRecursion, filter_map, sum_by, cons_option, list_all}
pub use Rattle.std.specs.Option.{option_map_or, option_and_then, option_or, option_to_list}
pub use Rattle.rx_note.specs.declared.note.Note.TheVariants.{Next}
pub use Rattle.rx_note.specs.declared.note.Terminal.{Terminal}
pub use Rattle.rx_note.specs.declared.note.Terminal.TheVariants.{Error, Completed}
pub use Rattle.rx_event.specs.declared.event.Event.{Event}
pub use Rattle.rx_event.specs.declared.event.Event.TheVariants.{Decline, End, Open, Item, Hub, Connect, Accept, Use, Take, Close, Remove, Return, Lease}
pub use Rattle.rx_event.specs.declared.event.Kind.{Kind}
pub use Rattle.rx_event.specs.declared.event.Kind.TheVariants.{Leaf, Until, Flat, Sub, Pass, Switch}
pub use Rattle.rx_event.specs.declared.event.Mode.{Mode}
pub use Rattle.rx_event.specs.declared.event.Mode.TheVariants.{Auto, Manual}
pub use Rattle.rx_event.specs.declared.event.Place.{Place}
pub use Rattle.rx_event.specs.declared.event.Place.TheVariants.{Inner, Source, Notifier, Root}
pub use Rattle.rx_event.specs.declared.mail.Mail.{Mail}
pub use Rattle.rx_event.specs.Marks.{Marks}
pub use Rattle.rx_event.specs.Allowed.{IsInOrderAt, IsAllowed, IsInOrder, IsHubbed, connected}
pub use Rattle.rx_event.specs.Bases.{Agree, is_untaken, keep_node}
unfoldable pub use Rattle.rx_event.specs.Bases.{base_of}
pub use Rattle.rx_event.specs.Calls.{Disconnecting, Call, IsStepOf, GivingBack, Leasing, Disposing, Opening, Aborting, OpeningUsing, Declining}
pub use Rattle.rx_event.specs.Calls.{Applying, Removing, Emitting, Holding, Publishing, Failing, Ending, Taking}
unfoldable pub use Rattle.rx_event.specs.Canonical.{first_forced}
pub use Rattle.rx_event.specs.Claims.Climbs.{StopsAtOpen}
pub use Rattle.rx_event.specs.Climb.{Stop, Delivery, Projection, Firing}
unfoldable pub use Rattle.rx_event.specs.Climb.{climb, most_visits, stops, visits}
pub use Rattle.rx_event.specs.Events.{makes_node, makes_hub, makes_resource, makes_lease, node_of_accept, parent_named, is_root, is_source_of, is_inner_of}
pub use Rattle.rx_event.specs.Events.{is_switch, is_until, is_merging, is_mirroring, has_source, is_auto_hub, is_manual_hub, is_connect_of, is_subscriber_of}
pub use Rattle.rx_event.specs.Events.{is_use_of, is_remove_of, is_take_of, is_return_of, pays, hub_subscribed, is_return, is_lease_of, is_notifier_of}
pub use Rattle.rx_event.specs.Events.{is_take}
pub use Rattle.rx_event.specs.Forced.{SourceEnded, IsDue, mirrored, fired, failed, completed, cut, left, IsConnectDue, IsConnected, IsForced, connecting}
pub use Rattle.rx_event.specs.Forced.{due, IsSettled, ChildEnded}
pub use Rattle.rx_event.specs.Kept.{Kept, nothing_kept, node_kept, resource_kept}
unfoldable pub use Rattle.rx_event.specs.Kept.{shown}
pub use Rattle.rx_event.specs.Lawful.{forced, MayFollow, allowed, opened_with, Started, IsLawful, IsForcedOn, stays, more}
pub use Rattle.rx_event.specs.Marks.{is_child_of, completes_source, passes_on, marks_of, due_at, terminal_due, ends_by}
unfoldable pub use Rattle.rx_event.specs.Marks.{child_terminal, source_completed, open_children}
pub use Rattle.rx_event.specs.Moments.{Moment, moments_after, is_projection_to, is_firing_of, stops_of}
unfoldable pub use Rattle.rx_event.specs.Moments.{moments, projections, is_fired, owed}
pub use Rattle.rx_event.specs.Notes.{mail_of, notes_to}
unfoldable pub use Rattle.rx_event.specs.Notes.{notes}
pub use Rattle.rx_event.specs.Opened.{source_opened, notifier_opened}
pub use Rattle.rx_event.specs.Renumbered.{event_by, AreRead, is_named, AreSameBy, place_by, IsRead, AreRenumbered}
pub use Rattle.rx_event.specs.Resources.{waiting_resources, accepted_by, held_resources, is_leased}
unfoldable pub use Rattle.rx_event.specs.Resources.{is_owned, is_out, leases_of, is_held, is_taken, is_waiting, uses}
pub use Rattle.rx_event.specs.Totals.{open_count, held_count, waiting_count, taken_count, accepted_count}
unfoldable pub use Rattle.rx_event.specs.Totals.{debt}
pub use Rattle.rx_event.specs.Tree.{places, at, if_less, is_within, shuts, open_nodes, is_open_child_of, open_subscribers, open_connections}
pub use Rattle.rx_event.specs.Tree.{is_switched_inner}
unfoldable pub use Rattle.rx_event.specs.Tree.{parent, ancestors, is_shut, is_open}
pub use Rattle.rx_event.proofs.Laws.Bools.{and_true, and_false, or_true, or_false, and_assoc, or_assoc, and_not_or, and_same, and_not_false, number_itself}
pub use Rattle.rx_event.proofs.Laws.Bools.{zero_or_zero, none_counted, counted_in_parts, counted_once}
