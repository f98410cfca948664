-- What callers may do in a history they may do in one that is the same but for its numbers, or over another base.
use Rattle.rx_event.proofs.Laws.Common.{◌≡◌, ℕ, suc, ◌+◌, ◌<◌, ◌≤◌, Bool, true, false, List, [], ◌∷◌, ◌++◌, length, Option, Some, map, slice_get, refl, sym}
use Rattle.rx_event.proofs.Laws.Common.{ap, subst, ◌∙◌, arith, not, option_map_or, both_ways, and_from, false_from_ne_true, same_Some, none-some, Terminal}
use Rattle.rx_event.proofs.Laws.Common.{Kept, Place, Root, Source, Inner, Notifier, Kind, Sub, Manual, Event, Open, Connect, Accept, makes_hub}
use Rattle.rx_event.proofs.Laws.Common.{makes_resource, has_source, is_merging, is_until, is_root, is_manual_hub, at, parent, is_open, is_within, open_nodes}
use Rattle.rx_event.proofs.Laws.Common.{is_owned, is_out, is_held, is_waiting, owed, source_opened, SourceEnded, IsConnectDue, IsInOrderAt, IsAllowed}
use Rattle.rx_event.proofs.Laws.Common.{IsLawful, event_by, is_named, length-map, Marks, notifier_opened, IsInOrder, IsHubbed, connected, place_by, AreSameBy}
use Rattle.rx_event.specs.Events.{is_leaf}
use Rattle.rx_event.specs.Tree.{hubs}
use Rattle.rx_event.specs.Allowed.{IsFree, may_abort, most_nodes, opened, published, accepted, used, removed, leased, returned, emitted, declined, leaf_ended}
use Rattle.rx_event.specs.Allowed.{aborted, projection_failed, root_closed, disconnected, taken}
use Rattle.rx_event.specs.Renumbered.{kind_by}
use Rattle.rx_event.proofs.Laws.Places.{at_within}
use Rattle.rx_event.proofs.Laws.Leases.{owned_resource, out_lease}
use Rattle.rx_event.proofs.Laws.Resources.{held_resource, waiting_parts}
use Rattle.rx_event.proofs.Laws.ClosedInEveryCourse.{open_above}
use Rattle.rx_event.proofs.Laws.LetGo.{connected_hub}
use Rattle.rx_event.proofs.Laws.RisingLists.{same_list}
use Rattle.rx_event.proofs.Laws.TreeRead.{AreTreesRead, trees_back, hub_made, opens_by, same_at, merging_by, within_by, parent_there, visits_by}
use Rattle.rx_event.proofs.Laws.TreeAfterEvent.{GoesOn, NamesOpen}
use Rattle.rx_event.proofs.Laws.ReadMade.{with_number, number_new, number_old, near_open, open_undone, names_below}
use Rattle.rx_event.proofs.Laws.ReadDue.{trees_of, unconnected_by, connect_due_by}
use Rattle.rx_event.proofs.Laws.ReadAfter.{ended_on, trees_on}
use Rattle.rx_event.proofs.Laws.ReadShown.{made_at, resource_made, root_by}
use Rattle.rx_event.proofs.Laws.Closings.{manual_hub}
use Rattle.std.proofs.Common.{rules}

-- tests that see no number -----------------------------------------------------------------------------------------------------------

pub leaf_by : (r : ℕ → ℕ) (e : Event) → is_leaf (event_by r e) ≡ is_leaf e
leaf_by r e = grind arith

pub sourced_by : (r : ℕ → ℕ) (e : Event) → has_source (event_by r e) ≡ has_source e
sourced_by r e = grind arith

pub abort_by : (r : ℕ → ℕ) (e : Event) → may_abort (event_by r e) ≡ may_abort e
abort_by r e = grind arith

pub until_by : (r : ℕ → ℕ) (e : Event) → is_until (event_by r e) ≡ is_until e
until_by r e = grind arith

-- what callers may do rests on this ----------------------------------------------------------------------------------------------------

pub record MayAlike (b d : Kept) (r s : ℕ → ℕ) (h c : List Event) : Type 0 where
  pub trees : AreTreesRead r s h c
  pub owes : (n : ℕ) → is_open h n ≡ true → owed d c (r n) ≡ owed b h n
  pub sourced : (n : ℕ) → is_open h n ≡ true → source_opened d c (r n) ≡ source_opened b h n
  pub notified : (n : ℕ) → is_open h n ≡ true → notifier_opened d c (r n) ≡ notifier_opened b h n
  pub hub_order : (g k : ℕ) → at makes_hub h g ≡ true → at makes_hub h k ≡ true → g < k → r g < r k
  pub hub_total : length (hubs c) ≡ length (hubs h)
  pub connects : (n g : ℕ) → slice_get c n ≡ Some (Connect g) → at makes_hub c g ≡ true
  pub owned : (q : ℕ) → is_owned h q ≡ true → is_owned c (r q) ≡ true
  pub held : (q : ℕ) → is_held h q ≡ true → is_held c (r q) ≡ true
  pub out : (l : ℕ) → is_out h l ≡ true → is_out c (r l) ≡ true
  pub waiting : (q : ℕ) → is_waiting h q ≡ true → is_waiting c (r q) ≡ true

module _ (b d : Kept) (r s : ℕ → ℕ) (h c : List Event) (m : MayAlike b d r s h c) where
  alive : (n : ℕ) → is_open h n ≡ true → is_open c (r n) ≡ true
  alive = m.trees.there.alive

  passes : (t : Event → Bool) → ((e : Event) → t (event_by r e) ≡ t e) → (n : ℕ) → is_open h n ≡ true → at t h n ≡ true → at t c (r n) ≡ true
  passes t by n o holds = same_at r s h c m.trees t by n o ∙ holds

  some_owed : (f : ℕ) → is_open h f ≡ true → 0 < owed b h f → 0 < owed d c (r f)
  some_owed f o some = rw (m.owes f o) some

  pub free_by : (place : Place) → IsFree b h place → IsFree d c (place_by r place)
  free_by x0 free = search (rules, alive, passes, sourced_by, merging_by, some_owed, until_by)

  pub hub_there : (k : ℕ) → at makes_hub h k ≡ true → at makes_hub c (r k) ≡ true
  hub_there k hub = let w = hub_made h k hub in ap (λ (x : Option Event). option_map_or makes_hub x false) (m.trees.there.hub k w.0 w.1)

  hub_back : (k : ℕ) → at makes_hub c k ≡ true → (at makes_hub h (s k) ≡ true) × (r (s k) ≡ k)
  hub_back k hub =
      let w = hub_made c k hub in
      (ap (λ (x : Option Event). option_map_or makes_hub x false) (m.trees.back.hub k w.0 w.1), m.trees.back.hub_undone k w.0 w.1)

  manual_there : (g : ℕ) → at is_manual_hub h g ≡ true → at is_manual_hub c (r g) ≡ true
  manual_there g manual = ap (λ (x : Option Event). option_map_or is_manual_hub x false) (m.trees.there.hub g Manual (manual_hub h g manual))

  -- no item goes round in a circle
  pub in_order_by : (g p : ℕ) → at makes_hub h g ≡ true → is_open h p ≡ true → IsInOrderAt h g p → IsInOrderAt c (r g) (r p)
  in_order_by g p hub o ordered n k inside connects =
      let up : is_open c n ≡ true = open_above c n (r p) (alive p o) inside in
      let back : is_within h (s n) (s (r p)) ≡ true = within_by s r c h (trees_back m.trees) (suc (r p)) n (r p) (omega arith) (alive p o) inside in
      let here : is_within h (s n) p ≡ true = ap (is_within h (s n)) (sym (m.trees.there.undone p o)) ∙ back in
      let less : g < s k = ordered (s n) (s k) here (m.trees.back.made n (Connect k) up connects) in
      let other = hub_back k (m.connects n k connects) in
      let grows : r g < r (s k) = m.hub_order g (s k) hub other.0 less in
      let same : r (s k) ≡ k = other.1 in omega arith

  pub hubbed_by : (place : Place) (kind : Kind) → IsFree b h place → IsHubbed h place kind → IsHubbed c (place_by r place) (kind_by r kind)
  hubbed_by place (Sub g) free hubbed = (hub_there g hubbed.0, by_place place free hubbed.1) where
    by_place : (q : Place) → IsFree b h q → IsInOrder h g q → IsInOrder c (r g) (place_by r q)
    by_place Root free ordered = tt
    by_place (Source p) free ordered = in_order_by g p hubbed.0 free.0 ordered
    by_place (Inner p) free ordered = in_order_by g p hubbed.0 free.0 ordered
    by_place (Notifier p) free ordered = in_order_by g p hubbed.0 free.0 ordered
  hubbed_by place _ free hubbed = tt

  childless_by : (n : ℕ) → is_open h n ≡ true → ((k : ℕ) → parent h k ≡ Some n → is_open h k ≡ false) → (k : ℕ) → parent c k ≡ Some (r n) → is_open c k ≡ false
  childless_by n o none k below = false_from_ne_true (is_open c k) (λ up.
      both_ways (is_open h (s k)) (none (s k) (parent_there s r c h (trees_back m.trees) k (r n) up below ∙ ap (λ i. Some i) (m.trees.there.undone n o)))
      (m.trees.back.alive k up))

  open_total : length (open_nodes c) ≡ length (open_nodes h)
  open_total = ap length (opens_by r s h c m.trees) ∙ length-map (open_nodes h) r

-- a hub that would wait there would wait here --------------------------------------------------------------------------------------------

names_open : (b : Kept) (h : List Event) (place : Place) (kind : Kind) → IsFree b h place → NamesOpen h (Open place kind)
names_open b h x2 kind free m named = search (rules, same_Some, none-some)

hub_of_kind : (h : List Event) (place : Place) (kind : Kind) → IsHubbed h place kind → (g : ℕ) → kind ≡ Sub g → at makes_hub h g ≡ true
hub_of_kind h place x2 hubbed g is = search rules

waits_by : {b d : Kept} {r s : ℕ → ℕ} {h c : List Event} → MayAlike b d r s h c → IsLawful b h → IsLawful d c →
    ((n : ℕ) (t : Terminal) → is_open h n ≡ true → SourceEnded h n t → SourceEnded c (r n) t) → (place : Place) (kind : Kind) → IsFree b h place →
    IsHubbed h place kind → (g : ℕ) → IsConnectDue (c ++ Open (place_by r place) (kind_by r kind) ∷ []) g →
    (k : ℕ) × IsConnectDue (h ++ Open place kind ∷ []) k
waits_by {b} {d} {r} {s} {h} {c} m law other_law ended place kind free hubbed g due_there =
    let e : Event = Open place kind in
    let x : Event = Open (place_by r place) (kind_by r kind) in
    let R : ℕ → ℕ = with_number (length h) (length c) r in
    let S : ℕ → ℕ = with_number (length c) (length h) s in
    let names : NamesOpen h (Open place kind) = names_open b h place kind free in
    let names_there : NamesOpen c (Open (place_by r place) (kind_by r kind)) =
    names_open d c (place_by r place) (kind_by r kind) (free_by b d r s h c m place free) in
    let undone : event_by s (Open (place_by r place) (kind_by r kind)) ≡ Open place kind =
    open_undone m.trees.there place kind names (hub_of_kind h place kind hubbed) in
    let goes : GoesOn r s (with_number (length h) (length c) r) (with_number (length c) (length h) s) h c (Open place kind) =
    record {
      same = undone;
      older = number_old (length h) (length c) r;
      older_back = number_old (length c) (length h) s;
      newest = λ named. (number_new (length h) (length c) r, number_new (length c) (length h) s);
      names = names;
      names_there = names_there;
      near = λ made. near_open r (with_number (length h) (length c) r) h place kind (number_old (length h) (length c) r) names (hub_of_kind h place kind
          hubbed);
      all_near = λ n y at_n made. names_below r (with_number (length h) (length c) r) n y law (number_old (length h) (length c) r) at_n made;
    } in
    let back : GoesOn s r (with_number (length c) (length h) s) (with_number (length h) (length c) r) c h (Open (place_by r place) (kind_by r kind)) =
    record {
      same = ap (event_by r) undone;
      older = number_old (length c) (length h) s;
      older_back = number_old (length h) (length c) r;
      newest = λ named. (number_new (length c) (length h) s, number_new (length h) (length c) r);
      names = names_there;
      names_there = subst (λ (y : Event). NamesOpen h y) (sym undone) names;
      near = λ made. near_open s (with_number (length c) (length h) s) c (place_by r place) (kind_by r kind) (number_old (length c) (length h) s) names_there
          (hub_of_kind c (place_by r place) (kind_by r kind) (hubbed_by b d r s h c m place kind free hubbed));
      all_near = λ n y at_n made. names_below s (with_number (length c) (length h) s) n y other_law (number_old (length c) (length h) s) at_n made;
    } in (
      S g,
      connect_due_by S R (c ++ x ∷ []) (h ++ e ∷ []) (trees_back (trees_on m.trees goes back))
          (ended_on law m.trees goes (λ n u is. absurd (cc)) ended) g due_there,
    )

-- what is allowed there ---------------------------------------------------------------------------------------------------------------------

pub allowed_by : {b d : Kept} {r s : ℕ → ℕ} {h c : List Event} → MayAlike b d r s h c → IsLawful b h → IsLawful d c →
    ((n : ℕ) (t : Terminal) → is_open h n ≡ true → SourceEnded h n t → SourceEnded c (r n) t) → {e : Event} → IsAllowed b h e → IsAllowed d c (event_by r e)
allowed_by {b} {d} {r} {s} {h} {c} m law other_law ended may = by_case may where
  few : (n : ℕ) → length (open_nodes h) + n ≤ most_nodes → length (open_nodes c) + n ≤ most_nodes
  few n less = let same = open_total b d r s h c m in omega arith

  by_case : {e : Event} → IsAllowed b h e → IsAllowed d c (event_by r e)
  by_case (opened {place = place} {kind = kind} free hubbed room more) =
      opened (free_by b d r s h c m place free) (hubbed_by b d r s h c m place kind free hubbed) (few 1 room)
      (λ g x. let w = waits_by m law other_law ended place kind free hubbed g x in few 2 (more w.0 w.1))
  by_case (published room) = published (let same = m.hub_total in omega arith)
  by_case (connected {g = g} manual none room) = connected (manual_there b d r s h c m g manual)
      (unconnected_by r s h c m.trees g (m.trees.there.hub_undone g Manual (manual_hub h g manual)) none) (let same = open_total b d r s h c m in omega arith)
  by_case (accepted {n = n} o) = accepted (alive b d r s h c m n o)
  by_case (used {r = q} held) = used (m.held q held)
  by_case (removed {r = q} owned) = removed (m.owned q owned)
  by_case (leased {r = q} owned) = leased (m.owned q owned)
  by_case (returned {l = l} out) = returned (m.out l out)
  by_case (emitted {l = l} o leaf room) =
      emitted (alive b d r s h c m l o) (passes b d r s h c m is_leaf (leaf_by r) l o leaf) (let same = visits_by r s h c m.trees l o in omega arith)
  by_case (declined {f = f} o is some) =
      declined (alive b d r s h c m f o) (passes b d r s h c m is_merging (merging_by r) f o is) (some_owed b d r s h c m f o some)
  by_case (leaf_ended {l = l} o leaf) = leaf_ended (alive b d r s h c m l o) (passes b d r s h c m is_leaf (leaf_by r) l o leaf)
  by_case (aborted {n = n} o is none) =
      aborted (alive b d r s h c m n o) (passes b d r s h c m may_abort (abort_by r) n o is) (childless_by b d r s h c m n o none)
  by_case (projection_failed {f = f} o is some) =
      projection_failed (alive b d r s h c m f o) (passes b d r s h c m is_merging (merging_by r) f o is) (some_owed b d r s h c m f o some)
  by_case (root_closed {n = n} o root) = root_closed (alive b d r s h c m n o) (passes b d r s h c m is_root (root_by r) n o root)
  by_case (disconnected {c = n} {g = g} o at_n manual) =
      disconnected (alive b d r s h c m n o) (m.trees.there.made n (Connect g) o at_n) (manual_there b d r s h c m g manual)
  by_case (taken {r = q} waits) = taken (m.waiting q waits)

-- so with other numbers ------------------------------------------------------------------------------------------------------------------------

hub_named : (e : Event) → makes_hub e ≡ true → is_named e ≡ true
hub_named e made = grind arith

pub hubs_read : (base : Kept) → (r s : ℕ → ℕ) (h c : List Event) → AreSameBy base r s h c → hubs c ≡ map r (hubs h)
hubs_read base r s h c a = same_list r s (at makes_hub h) (at makes_hub c) (length h) (length c) (record {
  within = at_within makes_hub h;
  within_there = at_within makes_hub c;
  there = λ k hub. let w = hub_made h k hub in ap (λ (x : Option Event). option_map_or makes_hub x false) (a.numbers.there.hub k w.0 w.1);
  back = λ k hub. let w = hub_made c k hub in
      (ap (λ (x : Option Event). option_map_or makes_hub x false) (a.numbers.back.hub k w.0 w.1), a.numbers.back.hub_undone k w.0 w.1);
  grows = λ j k hub also l. a.shown.in_order j k (made_at makes_hub is_named hub_named h j hub) (made_at makes_hub is_named hub_named h k also) l;
})

same_waits : (base : Kept) → (r s : ℕ → ℕ) (h c : List Event) → AreSameBy base r s h c → (q : ℕ) → is_waiting h q ≡ true → is_waiting c (r q) ≡ true
unfolding is_waiting
same_waits base r s h c a q waits =
    let parts = waiting_parts h q waits in
    let w = resource_made h q parts.0 in
    let made : at makes_resource c (r q) ≡ true =
    ap (λ (x : Option Event). option_map_or makes_resource x false) (a.shown.kept q (Accept w.0 w.1) refl w.2) in
    and_from _ _ (and_from _ _ made (ap not (a.shown.held q parts.0 ∙ parts.1))) (ap not (a.shown.taken q parts.0 ∙ parts.2))

pub same_may : (base : Kept) → {r s : ℕ → ℕ} {h c : List Event} → AreSameBy base r s h c → MayAlike base base r s h c
same_may base {r} {s} {h} {c} a = record {
  trees = trees_of a.numbers;
  owes = λ f o. ap (λ (m : Marks). m.owed) (a.numbers.there.marks f o);
  sourced = λ f o. ap (λ (m : Marks). m.source_opened) (a.numbers.there.marks f o);
  notified = λ f o. ap (λ (m : Marks). m.notifier_opened) (a.numbers.there.marks f o);
  hub_order = λ g k hub also l. a.shown.in_order g k (made_at makes_hub is_named hub_named h g hub) (made_at makes_hub is_named hub_named h k also) l;
  hub_total = ap length (hubs_read base r s h c a) ∙ length-map (hubs h) r;
  connects = λ n g at_n. connected_hub base c a.numbers.other_law g n at_n;
  owned = λ q owned. a.shown.owned q (owned_resource h q owned) ∙ owned;
  held = λ q held. a.shown.held q (held_resource h q held) ∙ held;
  out = λ l out. a.shown.out l (out_lease h l out) ∙ out;
  waiting = same_waits base r s h c a;
}

pub allowed_read : (base : Kept) → (r s : ℕ → ℕ) (h c : List Event) → AreSameBy base r s h c → {e : Event} → IsAllowed base h e →
    IsAllowed base c (event_by r e)
allowed_read base r s h c a may = allowed_by (same_may base a) a.numbers.law a.numbers.other_law a.numbers.there.ended may
