-- The names of other modules that most definitions here cite, passed on from one place. Declares nothing.
pub use Rattle.json.specs.Token.{Token, begin_array}
pub use Rattle.rx_audit.specs.declared.verdict.Verdict.{Verdict}
pub use Rattle.rx_device.specs.Input.{IsJsonOf}
pub use Rattle.rx_event.specs.Imports.{Bool, IsTrue, List, None, Option, Some, [], false, flat_map, length, list_all, map, nat_lt, option_and_then}
pub use Rattle.rx_event.specs.Imports.{option_map, option_map_or, suc, true, ℕ, ℤ}
pub use Rattle.rx_event.specs.declared.event.Event.{Event}
pub use Rattle.rx_event.specs.declared.event.Kind.{Kind}
pub use Rattle.rx_event.specs.declared.event.Kind.TheVariants.{Flat, Leaf, Pass, Sub, Switch, Until}
pub use Rattle.rx_event.specs.declared.event.Mode.{Mode}
pub use Rattle.rx_event.specs.declared.event.Mode.TheVariants.{Auto, Manual}
pub use Rattle.rx_event.specs.declared.event.Place.{Place}
pub use Rattle.rx_event.specs.declared.event.Place.TheVariants.{Inner, Notifier, Root, Source}
pub use Rattle.rx_note.specs.declared.note.Terminal.{Terminal}
pub use Rattle.rx_note.specs.declared.note.Terminal.TheVariants.{Completed, Error}
pub use Rattle.serde_json.specs.Data.{Data, Items, array, item, no_items, number, string, unsigned}
pub use Rattle.serde_json.specs.Find.{as_array, as_i64, as_number, as_str, as_u64, at, of_integer}
pub use Rattle.serde_json.specs.Read.{number_from, number_of, of_items, of_json, read}
pub use Rattle.serde_json.specs.View.{items_of, items_view, view}
pub use Rattle.std.specs.Fmt.{decimal, signed_decimal}
