-- The names of other modules that most definitions here cite, passed on from one place. Declares nothing.
pub use Rattle.rx_event.specs.declared.event.Event.{Event}
pub use Rattle.rx_event.specs.declared.event.Event.TheVariants.{Open, Hub, Connect, Accept, Use, Remove, Lease, Return, Item, Decline, End, Close, Take}
pub use Rattle.rx_event.specs.declared.event.Kind.{Kind}
pub use Rattle.rx_event.specs.declared.event.Kind.TheVariants.{Leaf, Pass, Flat, Switch, Until, Sub}
pub use Rattle.rx_event.specs.declared.event.Place.{Place}
pub use Rattle.rx_event.specs.declared.event.Place.TheVariants.{Root, Source, Inner, Notifier}
pub use Rattle.rx_note.specs.declared.note.Terminal.{Terminal}
pub use Rattle.rx_event.specs.Imports.{ℕ, zero, suc, Bool, true, false, ℤ, List, [], Option, None, Some, slice_get}
pub use Rattle.rx_event.specs.Imports.{take, length, map, filter, filter_map, not, IsTrue, list_any, list_all, option_map, AllByRecursion}
