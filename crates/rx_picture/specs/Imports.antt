-- The names of other modules that most definitions here cite, passed on from one place. Declares nothing.
pub use Rattle.rx_event.specs.Climb.{climb, onward, onward_from, stop_at, stop_made}
pub use Rattle.rx_event.specs.Events.{inner_named, is_merging, is_remove_of, is_return_of, is_root, is_subscriber_of, is_switch, is_take_of, makes_hub}
pub use Rattle.rx_event.specs.Events.{makes_lease, makes_node, makes_resource, node_of_accept, removed_of, returned_of, taken_of}
pub use Rattle.rx_event.specs.Imports.{AllByRecursion, Bool, IsTrue, List, None, Option, Some, [], count_by, false, filter, flat_map, length, list_any}
pub use Rattle.rx_event.specs.Imports.{map, nat_lt, not, option_and_then, option_map_or, range_with_len, slice_get, suc, take, true, zero, ℕ, ℤ}
pub use Rattle.rx_event.specs.declared.event.Event.{Event}
pub use Rattle.rx_event.specs.declared.event.Event.TheVariants.{Close, End, Item, Lease}
pub use Rattle.rx_event.specs.Notes.{mail_of, notes, told}
pub use Rattle.rx_event.specs.Resources.{is_held, is_out, is_owned, is_taken, is_waiting}
pub use Rattle.rx_event.specs.Tree.{ancestors, at, if_less, is_open, is_shut, open_subscribers, parent, places, shuts}
pub use Rattle.rx_picture.specs.declared.drawing.Drawing.{Drawing}
pub use Rattle.rx_picture.specs.declared.row.Row.{Row}
pub use Rattle.rx_picture.specs.declared.row.Shape.{Shape}
pub use Rattle.rx_picture.specs.declared.row.Shape.TheVariants.{Hub, Loan, Node, Resource}
pub use Rattle.std.specs.Option.{option_to_list}
