-- The names that most proofs here cite, passed on from one place. Declares nothing.
pub use Rattle.rx_event.proofs.Laws.Common.{arith, ◌≡◌, ◌∙◌, ap, length, sym, ℕ, ◌≤◌, Bool, List, ◌<◌, refl, Some, [], true, false, ◌∷◌, nat_lt, ◌&&◌, Option}
pub use Rattle.rx_event.proofs.Laws.Common.{◌+◌, at, slice_get, take, option_map_or, suc, ◌++◌, lt-ltb, inl, inr, ◌⊎◌, le-ltb, None, not, cond, cases_lt, zero}
pub use Rattle.rx_event.proofs.Laws.Common.{list_any, ◌||◌, AllByRecursion, makes_resource, parent, append-nil, length-take-le, filter, ◌==◌, range_with_len}
pub use Rattle.rx_event.proofs.Laws.Common.{or_right, eq-eqb, ltb-true, none-some, makes_node, option_and_then, min, map, false≢true, and_from, eqb-true}
pub use Rattle.rx_event.proofs.Laws.Common.{same_Some, makes_hub, is_return_of, ne_eqb, cases_Bool, is_take_of, is_open, ◌-◌, places, and_parts, is_held}
pub use Rattle.rx_event.proofs.Laws.Common.{false_from_ne_true, makes_lease, or_false, and_false, and_true, both_ways, map-append, is_remove_of, or_cases}
unfoldable pub use Rattle.rx_event.proofs.Laws.Common.{is_out, is_taken, most_visits, climb, is_owned, is_shut}
pub use Rattle.std.proofs.Common.{get_or, replicate, max, set}
pub use Rattle.std.proofs.Math.Seq.{take-length}
pub use Rattle.std.proofs.lemmas.Bool.{and_left, or_left, cases_eq}
pub use Rattle.std.proofs.lemmas.List.{length-replicate, length_push, get_or-replicate, get_or-set_same, get_or-set_other, length-set}
pub use Rattle.std.proofs.lemmas.List.Elements.{filter-append}
pub use Rattle.std.specs.List.{flat_map}
pub use Rattle.rx_event.proofs.Laws.Lists.{AllByRecursion-both}
pub use Rattle.rx_event.proofs.Laws.Openness.{is_open_past}
pub use Rattle.rx_event.proofs.Laws.Parents.{parent-lt}
pub use Rattle.rx_event.proofs.Laws.Places.{at_within}
pub use Rattle.rx_event.proofs.Laws.Stands.{event_at}
pub use Rattle.rx_event.specs.declared.event.Event.{Event}
pub use Rattle.rx_event.specs.declared.event.Event.TheVariants.{Accept, Lease, End}
pub use Rattle.rx_picture.specs.Choice.{marked, count_below, AreMarksByTest, bit, leads, follows, is_chosen}
pub use Rattle.rx_picture.specs.Drawn.{leads_tracks, is_shown, is_rowed_by, is_rowed, is_placed, AreColumns, IsDrawing}
pub use Rattle.rx_picture.specs.Levels.{AreLevels}
pub use Rattle.rx_picture.specs.Rows.{is_left_behind, is_drawn, IsShape, AreRowsShown, leaks, IsRowMade, has_row, Spans}
pub use Rattle.rx_picture.specs.Tables.{AreTurns, has_taken, AreLines, TurnsAt, has_returned, was_shut, has_removed, has_number, AreInners, noted}
pub use Rattle.rx_picture.specs.Told.{marbles, told_in_track}
pub use Rattle.rx_picture.specs.declared.drawing.Drawing.{Drawing}
pub use Rattle.rx_picture.specs.declared.row.Row.{Row}
pub use Rattle.rx_picture.specs.declared.row.Shape.{Shape}
pub use Rattle.rx_picture.specs.declared.row.Shape.TheVariants.{Loan, Node, Hub, Resource}
