-- The names that most proofs here cite, passed on from one place. Declares nothing.
pub use Rattle.std.proofs.Common.{◌≡◌, None, sym, ◌∙◌, ap, length, ℕ, Some, refl, IsSome, List, arith, is_some, true≢false, ◌-◌, Option, [], inl, inr, set}
pub use Rattle.std.proofs.Common.{slice_get, subst, ◌++◌, ◌<◌, ◌∷◌, ◌≢◌, get_or, get_or-set_other, get_or-set_same, length-set, option_map, replicate, ◌+◌}
pub use Rattle.std.proofs.Common.{◌≤◌, append-nil, cond, count_by, rules, suc, zero, ◌⊎◌}
pub use Rattle.std.proofs.lemmas.{Bool.cases_eq, Bool.cases_lt, List.Sums.sum_by-append, List.Sums.sum_by-set, Option.get_or_from_slice_get}
pub use Rattle.std.proofs.lemmas.List.{get_or_past, get_or_read, get_or_append_left, get_or_push, length_push, set_at}
pub use Rattle.rx_slots.specs.Slots.{entry_at, with_number, Slots, placed, entry_of, find, with_value, with_value_at, Changes, IsWithin, KeepsOthers}
pub use Rattle.rx_slots.specs.Slots.{number_at, slot_count, value_at}
pub use Rattle.rx_slots.specs.{Kept.shown, Kept.IsKept, Kept.last_or, declared.Entry.Entry, declared.Key.Key}
pub use Rattle.std.proofs.Common.{false, true, Bool, ◌==◌}
pub use Rattle.std.proofs.Common.{map, vec_capacity, zero-add, ◌||◌, length-append}
pub use Rattle.std.proofs.Common.{max, ltb as nat_lt, ◌&&◌}
pub use Rattle.std.{proofs.Math.Bool.not, proofs.lemmas.Bool.Decides.nat_tests, specs.List.range_with_len}
pub use Rattle.std.proofs.lemmas.Bool.{false≢true, false_from_ne_true, and_parts}
pub use Rattle.rx_slots.specs.Links.{IsTiedIn, lists_in, within, link_at, link_in, next_in, next_of, previous_in, previous_of, alone, ring_in}
pub use Rattle.rx_slots.specs.{Lists.is_in, Lists.list_at, Lists.Lists, Lists.take_out, Places.places, Places.is_end, Places.is_place, Places.number_of}
pub use Rattle.rx_slots.specs.Rings.{set_step, without, AreDifferent, Places, Steps, is_among, IsLink, Joins, Leads, Leaves, AreRings, Merges, walk, PassesBy}
pub use Rattle.rx_slots.specs.declared.links.{Link.Link, Links.Links, Place.Place, Place.TheVariants.Member, Place.TheVariants.End}
