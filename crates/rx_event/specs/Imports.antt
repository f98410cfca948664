-- The names of other modules that most definitions here cite, passed on from one place. Declares nothing.
pub use Rattle.std.proofs.Math.Bool.{not}
pub use Rattle.std.specs.List.{list_any, AllByRecursion, filter_map, flat_map, list_all, range_with_len}
pub use Rattle.std.specs.Option.{option_map_or, option_and_then, option_map}
pub use Rattle.std.specs.Prelude.{ℕ, ℤ, Bool, true, false, Some, List, [], length, slice_get, IsTrue, map, filter}
pub use Rattle.std.specs.Prelude.{Option, None, nat_lt, count_by, suc, take, sum_by, zero}
pub use Rattle.rx_note.specs.declared.note.Note.TheVariants.{Project}
pub use Rattle.rx_note.specs.declared.note.Terminal.{Terminal}
pub use Rattle.rx_note.specs.declared.note.Terminal.TheVariants.{Error, Completed}
pub use Rattle.rx_event.specs.declared.event.Event.{Event}
pub use Rattle.rx_event.specs.declared.event.Event.TheVariants.{Open, Hub, Connect, Accept, Use, Remove, Lease, Return, Item, Decline, End, Close, Take}
pub use Rattle.rx_event.specs.declared.event.Kind.{Kind}
pub use Rattle.rx_event.specs.declared.event.Kind.TheVariants.{Leaf, Pass, Flat, Switch, Until, Sub}
pub use Rattle.rx_event.specs.declared.event.Mode.{Mode}
pub use Rattle.rx_event.specs.declared.event.Mode.TheVariants.{Auto, Manual}
pub use Rattle.rx_event.specs.declared.event.Place.{Place}
pub use Rattle.rx_event.specs.declared.event.Place.TheVariants.{Root, Source, Inner, Notifier}
pub use Rattle.rx_event.specs.declared.refusal.Refusal.{Refusal}
pub use Rattle.rx_event.specs.declared.refusal.Refusal.TheVariants.{Full, Gone, WrongKind, PlaceTaken, NothingOwed, NotRoot, NoHub, HubOrder, Connected}
pub use Rattle.rx_event.specs.declared.refusal.Refusal.TheVariants.{NotConnected, NotFresh, NoLease, NotHeld, Leased, HasChild, MailLeft, TooMany}
