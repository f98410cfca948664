-- The names that most proofs here cite, passed on from one place. Declares nothing.
pub use Rattle.std.proofs.Common.{Some, is_some, None, Option, unwrap_or, string_bytes, codes, count_by, take_all, filter_map, get_or, HashMap, IfOk, ◌↔◌}
pub use Rattle.std.proofs.Common.{flat_map, get_or as slice_index_or}
pub use Rattle.rx_event.proofs.Laws.Common.{◌∙◌, ◌≡◌, ap, ℕ, sym, ◌<◌, List, length, take, ◌++◌, list_any, Bool, arith, false, refl, true, [], cond, ◌∷◌, ◌≤◌}
pub use Rattle.rx_event.proofs.Laws.Common.{false≢true, range_with_len, ◌+◌, append_assoc, cases_lt, cons_option, filter, inl, inr, option_map, suc, zero}
pub use Rattle.rx_event.proofs.Laws.Common.{◌⊎◌, IsTrue, Kept, append-nil, if◌then◌else◌, is_use_of, list_any-append, lt-ltb, ltb-true, nat_lt, option_map_or}
pub use Rattle.rx_event.proofs.Laws.Common.{option_and_then, slice_get, subst, sum_by-cons, ◌==◌}
pub use Rattle.std.{proofs.Math.Bool.◌||◌, proofs.lemmas.Cmp.nat_eq_equiv, proofs.lemmas.List.take_more, specs.Bool.nat_eq, specs.HashMap.get}
pub use Rattle.rx_book.specs.State.{State}
pub use Rattle.rx_event.{proofs.Laws.Searches.list_any_push, proofs.Laws.Searches.list_any_same_at, specs.Kept.event_since, specs.declared.event.Event.Event}
pub use Rattle.rx_line.specs.{Names.name_of_number, Pieces.joined, declared.names.Names.Names}
pub use Rattle.rx_listing.specs.{Parts.IsKept, Parts.part_object, Parts.counted_of, Parts.has_no_texts, Parts.led_text, Parts.names_of_part, Whole.subscribes}
pub use Rattle.rx_listing.specs.Recalled.{connection_by, uses_by, ArePlaced, IsCountable, connected_in, connection_after, uses_in}
pub use Rattle.rx_listing.specs.declared.{known.Known.Known, list.Part.Part, past.Past.Past, seen.Seen.Seen}
pub use Rattle.rx_listing.specs.declared.list.Part.TheVariants.{Hubs, Leases, Nodes, Resources}
unfoldable pub use Rattle.rx_listing.specs.{Recalled.holder_by, Recalled.made_by, Text.front_text, Text.hub_text, Text.member_of, Text.mode_word}
