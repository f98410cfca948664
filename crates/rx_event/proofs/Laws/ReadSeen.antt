-- What callers see of histories that are the same but for their numbers.
use Rattle.rx_event.proofs.Laws.Common.{◌≡◌, ℕ, Bool, true, false, List, length, Option, Some, slice_get, refl, sym, ap, subst, ◌∙◌, not, ◌&&◌, option_map_or}
use Rattle.rx_event.proofs.Laws.Common.{and_parts, and_from, Kept, Mode, Event, Hub, Accept, makes_node, makes_hub, makes_resource, has_source, is_merging}
use Rattle.rx_event.proofs.Laws.Common.{is_until, is_root, is_auto_hub, is_manual_hub, at, places, parent, is_open, open_nodes, is_open_child_of, is_waiting}
use Rattle.rx_event.proofs.Laws.Common.{is_child_of, IsInOrderAt, is_named, length-map, length-filter, AreSameBy}
use Rattle.std.specs.Cmp.{both_ways as same_test}
use Rattle.rx_event.specs.Events.{is_leaf}
use Rattle.rx_event.specs.Tree.{has_open_child}
use Rattle.rx_event.specs.Allowed.{may_abort}
use Rattle.rx_event.specs.Claims.Seen.{CallersSeeTheSame}
use Rattle.rx_event.proofs.Laws.Openness.{is_open_within}
use Rattle.rx_event.proofs.Laws.Searches.{list_any_found, list_any_holds}
use Rattle.rx_event.proofs.Laws.MarksFound.{is_child_parent, parent_is_child}
use Rattle.rx_event.proofs.Laws.InOrder.{place_get}
use Rattle.rx_event.proofs.Laws.ReadDue.{trees_of, renumbered_back}
use Rattle.rx_event.proofs.Laws.TreeRead.{opens_by, same_at, merging_by, hub_made, parent_there, visits_by, subscribers_by, connections_by, node_named}
use Rattle.rx_event.proofs.Laws.ReadShown.{made_at, resource_made, root_by}
use Rattle.rx_event.proofs.Laws.ReadAllowed.{leaf_by, sourced_by, abort_by, until_by, hubs_read, same_may, hub_there, in_order_by}

pub same_back : (base : Kept) → {r s : ℕ → ℕ} {h c : List Event} → AreSameBy base r s h c → AreSameBy base s r c h
same_back base a = record { numbers = renumbered_back base a.numbers; shown = a.shown_back; shown_back = a.shown }

module _ (base : Kept) (r s : ℕ → ℕ) (h c : List Event) (a : AreSameBy base r s h c) where
  open_same : (n : ℕ) → at makes_node h n ≡ true → is_open c (r n) ≡ is_open h n
  open_same n node = same_test (is_open c (r n)) (is_open h n)
      (λ o. ap (is_open h) (sym (a.shown.apart n (made_at makes_node is_named node_named h n node))) ∙ a.numbers.back.alive (r n) o) (a.numbers.there.alive n)

  children_there : (n : ℕ) → is_open h n ≡ true → has_open_child h n ≡ true → has_open_child c (r n) ≡ true
  children_there n o found =
      let w = list_any_found (is_open_child_of h n) (places h) found in
      let parts = and_parts (is_open h w.1) (is_child_of h n w.1) w.3 in
      let alive : is_open c (r w.1) ≡ true = a.numbers.there.alive w.1 parts.0 in
      let below : parent c (r w.1) ≡ Some (r n) = parent_there r s h c (trees_of a.numbers) w.1 n parts.0 (is_child_parent h n w.1 parts.1) in
      list_any_holds (is_open_child_of c (r n)) (places c) (r w.1) (r w.1) (place_get c (r w.1) (is_open_within c (r w.1) alive))
      (and_from _ _ alive (parent_is_child c (r n) (r w.1) below))

  hub_test : (q : Event → Bool) → (g : ℕ) → at makes_hub h g ≡ true → at q c (r g) ≡ at q h g
  hub_test q g hub =
      let w : (mode : Mode) × (slice_get h g ≡ Some (Hub mode)) = hub_made h g hub in
      ap (λ (x : Option Event). option_map_or q x false) (a.numbers.there.hub g w.0 w.1 ∙ sym w.1)

  undone_hub : (g : ℕ) → at makes_hub h g ≡ true → s (r g) ≡ g
  undone_hub g hub = let w = hub_made h g hub in a.numbers.there.hub_undone g w.0 w.1

  waiting_same : (q : ℕ) → at makes_resource h q ≡ true → is_waiting c (r q) ≡ is_waiting h q
  unfolding is_waiting
  waiting_same q made =
      let w = resource_made h q made in
      let there : at makes_resource c (r q) ≡ at makes_resource h q =
      ap (λ (x : Option Event). option_map_or makes_resource x false) (a.shown.kept q (Accept w.0 w.1) refl w.2) ∙ sym made in
      (λ i. there i && not (a.shown.held q made i) && not (a.shown.taken q made i))

children_same : (base : Kept) → (r s : ℕ → ℕ) (h c : List Event) (a : AreSameBy base r s h c) (n : ℕ) → is_open h n ≡ true →
    has_open_child c (r n) ≡ has_open_child h n
children_same base r s h c a n o = same_test (has_open_child c (r n)) (has_open_child h n)
    (λ found. ap (has_open_child h) (sym (a.numbers.there.undone n o)) ∙
    children_there base s r c h (same_back base a) (r n) (a.numbers.there.alive n o) found) (children_there base r s h c a n o)

ordered_back : {base : Kept} {r s : ℕ → ℕ} {h c : List Event} → AreSameBy base r s h c → (g p : ℕ) → at makes_hub h g ≡ true → is_open h p ≡ true →
    IsInOrderAt c (r g) (r p) → IsInOrderAt h g p
ordered_back {base} {r} {s} {h} {c} a g p hub o ordered = subst (λ (i : ℕ). IsInOrderAt h i p) (undone_hub base r s h c a g hub)
    (subst (λ (n : ℕ). IsInOrderAt h (s (r g)) n) (a.numbers.there.undone p o)
    (in_order_by base base s r c h (same_may base (same_back base a)) (r g) (r p) (hub_there base base r s h c (same_may base a) g hub)
    (a.numbers.there.alive p o) ordered))

-- all together
pub callers_see : (base : Kept) → (r s : ℕ → ℕ) (h c : List Event) → AreSameBy base r s h c → CallersSeeTheSame base r s h c
callers_see base r s h c a = record {
  same_open = open_same base r s h c a;
  leaves = same_at r s h c (trees_of a.numbers) is_leaf (leaf_by r);
  sourced = same_at r s h c (trees_of a.numbers) has_source (sourced_by r);
  merging = same_at r s h c (trees_of a.numbers) is_merging (merging_by r);
  untils = same_at r s h c (trees_of a.numbers) is_until (until_by r);
  aborted = same_at r s h c (trees_of a.numbers) may_abort (abort_by r);
  roots = same_at r s h c (trees_of a.numbers) is_root (root_by r);
  same_owed = (same_may base a).owes;
  source_taken = (same_may base a).sourced;
  notifier_taken = (same_may base a).notified;
  children = children_same base r s h c a;
  same_visits = visits_by r s h c (trees_of a.numbers);
  hub_there = hub_there base base r s h c (same_may base a);
  autos = hub_test base r s h c a is_auto_hub;
  manuals = hub_test base r s h c a is_manual_hub;
  connections = λ g hub. connections_by r s h c (trees_of a.numbers) g (undone_hub base r s h c a g hub);
  subscribers = λ g hub. subscribers_by r s h c (trees_of a.numbers) g (undone_hub base r s h c a g hub);
  ordered = in_order_by base base r s h c (same_may base a);
  ordered_back = ordered_back a;
  owned = a.shown.owned;
  leases = a.shown.leases;
  out = a.shown.out;
  held = a.shown.held;
  waiting = waiting_same base r s h c a;
  nodes = opens_by r s h c (trees_of a.numbers);
  all_hubs = hubs_read base r s h c a;
  open_total = sym (length-filter (is_open c) (places c)) ∙ ap length (opens_by r s h c (trees_of a.numbers)) ∙ length-map (open_nodes h) r ∙
      length-filter (is_open h) (places h);
  hub_total = (same_may base a).hub_total;
}
