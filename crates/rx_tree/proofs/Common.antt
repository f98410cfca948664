-- The names that most proofs here cite, passed on from one place. Declares nothing.
pub use Rattle.std.proofs.Common.{Some, is_some, None, Option, true≢false, IsSome, IfSome, get_or, ◌^◌, IfNone, count_by, get_or-set_other, get_or-set_same}
pub use Rattle.std.proofs.Common.{set, vec_len, Contains, add-zero, option_copied, vec_capacity}
pub use Rattle.rx_event.proofs.Laws.Common.{◌∙◌, ap, sym, ◌≡◌, refl, subst, true, false, cond, ℕ, option_map, arith, ◌<◌, Bool, option_map_or, inl, inr, []}
pub use Rattle.rx_event.proofs.Laws.Common.{◌+◌, ◌∷◌, List, option_and_then, ◌≢◌, false≢true, ◌==◌, ◌&&◌, ◌++◌, ◌≤◌, length, ◌⊎◌, map, IsTrue, is_root, ◌-◌}
pub use Rattle.rx_event.proofs.Laws.Common.{false_from_ne_true, suc, cases_lt, ◌||◌, drop, length-map, parent_named, zero, if_less, range_with_len, rules}
pub use Rattle.rx_event.proofs.Laws.Common.{sum_by, sum_by-cons, terminal_due, append_assoc, cond_some, filter_map, is_merging, list_any, ltb-true, nat_lt}
pub use Rattle.rx_event.proofs.Laws.Common.{makes_node, option_or, take}
pub use Rattle.std.proofs.{Math.Bool.not, Math.Seq.map-set_same, lemmas.Bool.cases_eq, lemmas.Bool.Decides.nat_tests, lemmas.List.get_or_past}
pub use Rattle.std.proofs.lemmas.List.{Sorted.IsNonDecreasingBy-from_sort_by_key, Sums.count_by-le-length, Sums.sum_by-set}
pub use Rattle.std.{proofs.lemmas.Option.option_and_then_some, specs.List.filter, specs.List.Sorted.IsPermutation, specs.Option.option_copied_mut}
pub use Rattle.rx_event.specs.Marks.{Marks, after_child, after_decline, after_inner, after_notifier, after_projection, after_source}
pub use Rattle.rx_event.specs.declared.{base.BaseNode.BaseNode, base.BaseResource.BaseResource, event.Event.Event}
pub use Rattle.rx_event.specs.declared.{event.Event.TheVariants.Open, event.Event.TheVariants.Connect}
pub use Rattle.rx_slots.proofs.Laws.JoinsLeavesMerges.{leaves_nothing, leaves_of, joins_of, merges_of}
pub use Rattle.rx_slots.proofs.Laws.Links.{first_among, last_among, next_in, no_loop, previous_in, set_same, walk_leads}
pub use Rattle.rx_slots.proofs.Laws.Places.{among_here, among_there, cases_place, without_none, among_cons, place_apart, among_without, or_true, few_places}
pub use Rattle.rx_slots.proofs.Laws.Rings.{some_same, by_ring, put_ring, rings_joined, rings_left, some_none, merged_rings, rings_merged}
pub use Rattle.rx_slots.specs.Rings.{is_among, Steps, Joins, Leaves, set_step, without, AreRings, Leads, AreDifferent, IsLink, Merges, PassesBy, walk}
pub use Rattle.rx_slots.specs.Slots.{find, Slots, entry_at, entry_of, Changes, with_number, value_at, with_value, key_at, with_value_at, KeepsOthers}
pub use Rattle.rx_slots.specs.Slots.{IsWithin, number_at}
pub use Rattle.rx_slots.{proofs.Laws.EntryByNumber.find-value_at, proofs.Laws.EntryByNumber.found_there, specs.declared.Entry.Entry, specs.declared.Key.Key}
pub use Rattle.rx_tree.specs.Resources.{is_owned, is_lent, is_held, one_lease_less, one_lease_more, removed, Takes, Uses, store_key, stowed_of, waiting_count}
pub use Rattle.rx_tree.specs.Resources.{waits_in, with_resource}
pub use Rattle.rx_tree.specs.Store.{nodes_of, resources_of, next_of, previous_of, alone, project, shown, Relinks, key_on, link_at, stands, on_entry, Inserts}
pub use Rattle.rx_tree.specs.Store.{KeepsLinks, Takes_out, is_there, no_counts, held_count_at, one_more, count_if, one_less, set_link_at, freed}
pub use Rattle.rx_tree.specs.Ties.{IsTiedAt, home_of, resource_ring, IsTied, sibling_ring, Rises, is_by_age, IsCounted, IsKept, AreCounted, IsRemarked}
pub use Rattle.rx_tree.specs.Ties.{owned_at, unowned_in, is_free}
pub use Rattle.rx_tree.specs.Tree.{IsSound, Rewrites, HasNone, IsChild, IsFirst, with_marks, AreApart, IsPast, IsPlaced, Tree, first_of, is_on, with_last}
pub use Rattle.rx_tree.specs.Tree.{IsRoot, is_key, named_above, parent_number, AreDistinct, IsNewest, IsPromised, is_due, with_due}
pub use Rattle.rx_tree.proofs.Laws.FoundAfterWrite.{entry_found, found_entry, slot_within, one_key, with_number-same, KeepsOthers-written, find-written}
pub use Rattle.rx_tree.proofs.{Laws.Keys.some_of, Laws.Keys.cases_key, Laws.Keys.none_not_some, Laws.Keys.same_key, PlacesApart.tells}
pub use Rattle.rx_tree.specs.{Bases.kept_by, Bases.node_as_kept, Bases.resource_as_kept, Below.is_below, Owed.owed_in, Owed.owed_by, declared.links.Link.Link}
pub use Rattle.rx_tree.specs.{Closing.Closed, Closing.IsSubtree, Closing.IsInside, Closing.outside, declared.linked.Record.Record, declared.links.Place.Place}
pub use Rattle.rx_tree.specs.Cuts.{Descends, from_top, IsCutting, one_down, still_open, CutsLeaf, IsPart, LetsWait, waiting_home}
pub use Rattle.rx_tree.specs.{Places.places, Places.is_place, Places.slot_of, Places.is_end, declared.node.Node.Node, declared.node.ResKey.ResKey}
pub use Rattle.rx_tree.specs.Record.{above_of, kind_word, made_of, node_in, node_of, place_word, words_of}
pub use Rattle.rx_tree.specs.declared.links.Place.TheVariants.{Noted, Stored, Held, Children, Sibling, Due, Roots, Waiting}
pub use Rattle.rx_tree.specs.declared.{node.Stowed.Stowed, made.Made.Made, made.PlaceWord.PlaceWord, counts.Counts.Counts, store.Store.Store}
