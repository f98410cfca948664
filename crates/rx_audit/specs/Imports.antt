-- The names of other modules that most definitions here cite, passed on from one place. Declares nothing.
pub use Rattle.rx_audit.specs.declared.found.Found.{Found}
pub use Rattle.rx_audit.specs.declared.reach.Visit.{Visit}
pub use Rattle.rx_event.specs.Climb.{Firing, Projection, Stop, climb, onward, onward_from, stop_at, stop_made, visits}
pub use Rattle.rx_event.specs.Events.{has_source, hub_connected, hub_subscribed, inner_named, is_auto_hub, is_item, is_leaf, is_manual_hub, is_merging}
pub use Rattle.rx_event.specs.Events.{is_notifier_of, is_root, is_source_of, is_subscriber_of, is_switch, is_until, leased_of, makes_hub, makes_lease}
pub use Rattle.rx_event.specs.Events.{makes_node, makes_resource, named_by, node_of_accept, parent_named, removed_of, returned_of, taken_of}
pub use Rattle.rx_event.specs.Forced.{IsConnectDue, IsForced, IsSettled}
pub use Rattle.rx_event.specs.Imports.{Bool, IsTrue, List, None, Option, Some, [], false, length, list_all, list_any, nat_lt, not, option_and_then}
pub use Rattle.rx_event.specs.Imports.{option_map_or, slice_get, suc, sum_by, take, true, zero, ℕ, ℤ}
pub use Rattle.rx_event.specs.Kept.{nothing_kept}
pub use Rattle.rx_event.specs.Lawful.{IsLawful, MayFollow}
pub use Rattle.rx_event.specs.Marks.{after_firing, blank_marks, marks_of, terminal_due, touches}
pub use Rattle.rx_event.specs.Resources.{held_resources, is_held, is_leased, is_out, is_owned, is_waiting, leases_of, waiting_resources}
pub use Rattle.rx_event.specs.Sames.{same_terminal}
pub use Rattle.rx_event.specs.Tree.{ancestors, at, has_open_child, hubs, if_less, is_open, is_switched_inner, open_nodes, open_subscribers, parent}
pub use Rattle.rx_event.specs.Tree.{places, shuts}
pub use Rattle.rx_event.specs.declared.event.Event.{Event}
pub use Rattle.rx_event.specs.declared.event.Event.TheVariants.{Accept, Close, Connect, Decline, End, Hub, Item, Lease, Open, Remove, Return, Take, Use}
pub use Rattle.rx_note.specs.declared.note.Terminal.{Terminal}
pub use Rattle.std.specs.Option.{option_to_list}
