-- The names that claims cite, passed on from one place. Declares nothing.
pub use Rattle.rx_event.specs.Allowed.{IsAllowed, may_abort, IsInOrderAt}
pub use Rattle.rx_event.specs.Bases.{base_of, Mirrors, Fires, Fails, Completes, Cuts, Leaves, Agree}
pub use Rattle.rx_event.specs.Calls.{Call, IsStepOf}
pub use Rattle.rx_event.specs.Canonical.{first_forced, IsFirstOn}
pub use Rattle.rx_event.specs.Climb.{Stop, Delivery, Projection, Firing, stop_at, onward, most_visits, climb, stops, visits}
pub use Rattle.rx_event.specs.Events.{is_source_of, is_notifier_of, is_use_of, is_item, is_take, makes_resource, pays, is_root, is_merging, is_until}
pub use Rattle.rx_event.specs.Events.{is_subscriber_of, makes_node, makes_hub, is_manual_hub, is_connect_of, hub_subscribed, is_switch, is_connect}
pub use Rattle.rx_event.specs.Events.{is_auto_hub, is_inner_of, has_source, makes_lease, is_remove_of, is_lease_of, is_return, is_return_of, is_take_of}
pub use Rattle.rx_event.specs.Events.{is_leaf}
pub use Rattle.rx_event.specs.Forced.{IsConnectDue, IsForced, IsSettled, SourceEnded, IsDue, IsConnected, MayWait}
pub use Rattle.rx_event.specs.Imports.{ℕ, List, [], slice_get, count_by, list_any, AllByRecursion, Terminal, Event, suc}
pub use Rattle.rx_event.specs.Imports.{Some, None, length, take, sum_by, IsTrue, filter_map, flat_map, Connect, Bool, false}
pub use Rattle.rx_event.specs.Imports.{not, list_all, Close, zero, End, ℤ, Root, Source, Inner, Notifier, Kind, Mode, Open, Hub, Accept, Use}
pub use Rattle.rx_event.specs.Imports.{Remove, Lease, Return, Item, Decline, Take, true, option_map_or, Project, map, Place, Pass, Sub}
pub use Rattle.rx_event.specs.Kept.{Kept, nothing_kept, shown}
pub use Rattle.rx_event.specs.Lawful.{Started, MayFollow, IsLawful, IsForcedOn, IsStep}
pub use Rattle.rx_event.specs.Marks.{completes_source, source_completed, marks_of, blank_marks, due_at, touches, after_source, after_notifier, after_inner}
pub use Rattle.rx_event.specs.Marks.{after_decline, after_child, after_stops}
pub use Rattle.rx_event.specs.Moments.{stops_of, moments, projections, owed, is_projection, is_firing_of, is_projection_to}
pub use Rattle.rx_event.specs.Notes.{mail_of, notes_to}
pub use Rattle.rx_event.specs.Opened.{source_opened, notifier_opened}
pub use Rattle.rx_event.specs.Renumbered.{event_by, call_by, IsKnown, AreSameBy, AreSame, AreSameSince}
pub use Rattle.rx_event.specs.Resources.{uses, accepted_by, is_owned, is_out, leases_of, leases_out, is_held, is_taken, is_waiting, held_resources}
pub use Rattle.rx_event.specs.Resources.{waiting_resources, is_leased}
pub use Rattle.rx_event.specs.Totals.{item_count, accepted_count, taken_count, debt, open_count, owned_count, held_count, lease_count, waiting_count}
pub use Rattle.rx_event.specs.Totals.{owed_count, connect_count}
pub use Rattle.rx_event.specs.Tree.{at, places, is_within, is_open, open_connections, open_subscribers, open_nodes, parent, shuts, hubs, has_open_child}
