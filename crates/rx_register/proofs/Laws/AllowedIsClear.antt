-- No cause but want of room stands against the call behind an event that is allowed.
use Rattle.std.proofs.Common.{◌≡◌, ℕ, ℤ, ◌+◌, ◌<◌, ◌≤◌, Bool, true, false, List, [], ◌∷◌, ◌++◌, length, Option, Some, None, cond, slice_get}
use Rattle.std.proofs.Common.{refl, sym, ap, subst, arith, inl, inr, ◌⊎◌, ◌==◌, nat_lt, rules}
use Rattle.std.proofs.Math.Bool.{not}
use Rattle.std.specs.Option.{option_map_or}
use Rattle.std.specs.List.{list_any}
use Rattle.std.proofs.lemmas.Bool.{cases_Bool, false≢true, and_parts, and_from, both_ways, eqb-true, eq-eqb, false_from_ne_true, not-true, le-ltb, lt-ltb, ltb-true}
use Rattle.std.proofs.lemmas.List.Sums.{length-filter}
use Rattle.rx_note.specs.declared.note.Terminal.{Terminal}
use Rattle.rx_note.specs.declared.note.Terminal.TheVariants.{Completed, Error}
use Rattle.rx_event.specs.declared.event.Place.{Place}
use Rattle.rx_event.specs.declared.event.Place.TheVariants.{Root, Source, Inner, Notifier}
use Rattle.rx_event.specs.declared.event.Kind.{Kind}
use Rattle.rx_event.specs.declared.event.Kind.TheVariants.{Sub}
use Rattle.rx_event.specs.declared.event.Mode.{Mode}
use Rattle.rx_event.specs.declared.event.Event.{Event}
use Rattle.rx_event.specs.declared.event.Event.TheVariants.{Open, Hub, Connect, Accept, Use, Remove, Lease, Return, Item, Decline, End, Close, Take}
use Rattle.rx_event.specs.declared.refusal.Refusal.{Refusal}
use Rattle.rx_event.specs.declared.refusal.Refusal.TheVariants.{Full, Gone, WrongKind, PlaceTaken, NothingOwed, NotRoot, NoHub, HubOrder, Connected}
use Rattle.rx_event.specs.declared.refusal.Refusal.TheVariants.{NotConnected, NoLease, NotHeld, Leased, HasChild, TooMany}
use Rattle.rx_event.specs.Events.{is_leaf, is_merging, is_root, is_manual_hub}
use Rattle.rx_event.specs.Kept.{Kept}
use Rattle.rx_event.specs.Tree.{at, places, parent, ancestors, is_open, is_open_child_of, has_open_child, open_nodes, open_connections, hubs}
use Rattle.rx_event.specs.Resources.{is_owned, is_held, is_out}
use Rattle.rx_event.specs.Climb.{visits, most_visits}
use Rattle.rx_event.specs.Moments.{owed}
use Rattle.rx_event.specs.Totals.{open_count}
use Rattle.rx_event.specs.Forced.{IsConnectDue}
use Rattle.rx_event.specs.Allowed.{IsAllowed, IsFree, IsHubbed, IsInOrder, IsInOrderAt, most_nodes, most_hubs, may_abort, opened, published, connected}
use Rattle.rx_event.specs.Allowed.{accepted, used, removed, leased, returned, emitted, declined, leaf_ended, aborted, projection_failed, root_closed}
use Rattle.rx_event.specs.Allowed.{disconnected, taken}
use Rattle.rx_event.specs.Calls.{Call, Opening, Holding, Applying, Removing, Leasing, GivingBack, Emitting, Ending, Aborting, Declining, Failing}
use Rattle.rx_event.specs.Calls.{Disposing, Publishing, Connecting, Disconnecting, Taking}
use Rattle.rx_event.specs.Causes.{causes, unlimited, is_gone, is_wrong_place, is_taken_place, is_unowed_place, is_without_hub, is_out_of_order}
use Rattle.rx_event.specs.Causes.{connects_up_to, is_crowded, forces_connect, nodes_opened}
use Rattle.rx_event.proofs.Laws.Searches.{list_any_found, list_any_holds}
use Rattle.rx_event.proofs.Laws.Resources.{owned_held}
use Rattle.rx_event.proofs.Laws.Hubs.{manual_made}
use Rattle.rx_register.specs.Claims.{IsReady}
use Rattle.rx_register.specs.CallBehind.{call_behind, call_failing, may_fail, hub_disconnected}
use Rattle.rx_register.proofs.Laws.CallBehindAdds.{is_disconnected, root_disconnects, connected_by, failing_leaf, failing_other}
use Rattle.rx_register.proofs.Laws.HubWaitsAfterOpening.{opening_waits_for}

-- but for room no cause stands against the call, and what it takes waits
pub record IsQuiet (base : Kept) (h : List Event) (limit : ℕ) (call : Call) : Type 0 where
  pub quiet : (why : Refusal) → unlimited (causes base h limit true call) why ≡ false
  pub ready : IsReady h call

-- places and hubs ---------------------------------------------------------------------------------

owed_some : (n : ℕ) → 0 < n → (n == 0) ≡ false
owed_some n l = false_from_ne_true (n == 0) (λ y. let none : n ≡ 0 = eqb-true n 0 y in omega arith)

-- none of the four causes stands against a free place
place_quiet : (base : Kept) → (h : List Event) (place : Place) → IsFree base h place → (is_gone h place ≡ false) × (is_wrong_place h place ≡ false) ×
    (is_taken_place base h place ≡ false) × (is_unowed_place base h place ≡ false)
place_quiet base h Root free = (refl, refl, refl, refl)
place_quiet base h (Source p) free = (ap not free.0, ap not free.1, free.2, refl)
place_quiet base h (Inner p) free = (ap not free.0, ap not free.1, refl, owed_some (owed base h p) free.2)
place_quiet base h (Notifier p) free = (ap not free.0, ap not free.1, free.2, refl)

up_to : (g : ℕ) (h : List Event) (b : ℕ) → at (connects_up_to g) h b ≡ true → (k : ℕ) × (slice_get h b ≡ Some (Connect k)) × (not (nat_lt g k) ≡ true)
up_to g h b = search (rules, slice_get, Option, ℕ, Some, not, nat_lt, None, false≢true)

none_up_to : (h : List Event) (g p : ℕ) → IsInOrderAt h g p → list_any (at (connects_up_to g) h) (ancestors h p) ≡ false
none_up_to h g p ordered = search (rules, false_from_ne_true, list_any_found, up_to, list_any_holds, eq-eqb, both_ways, nat_lt, not-true, lt-ltb)

order_quiet : (h : List Event) (place : Place) (g : ℕ) → IsInOrder h g place → is_out_of_order h place (Sub g) ≡ false
order_quiet h Root g ordered = refl
order_quiet h (Source p) g ordered = none_up_to h g p ordered
order_quiet h (Inner p) g ordered = none_up_to h g p ordered
order_quiet h (Notifier p) g ordered = none_up_to h g p ordered

hub_quiet : (h : List Event) (place : Place) (kind : Kind) → IsHubbed h place kind → (is_without_hub h kind ≡ false) × (is_out_of_order h place kind ≡ false)
hub_quiet h place (Sub g) hubbed = (ap not hubbed.0, order_quiet h place g hubbed.1)
hub_quiet h place _ hubbed = (refl, refl)

-- limits ------------------------------------------------------------------------------------------

few_quiet : (h : List Event) (more : ℕ) → length (open_nodes h) + more ≤ most_nodes → is_crowded h more ≡ false
few_quiet h more few =
    let count : length (open_nodes h) ≡ open_count h = length-filter (is_open h) (places h) in
    le-ltb most_nodes (open_count h + more) (omega (arith, count))

-- there is room for the connection that an opening forces
opening_few : (base : Kept) → (h : List Event) (place : Place) (kind : Kind) → IsFree base h place → length (open_nodes h) + 1 ≤ most_nodes →
    ((g : ℕ) → IsConnectDue (h ++ Open place kind ∷ []) g → length (open_nodes h) + 2 ≤ most_nodes) → is_crowded h (nodes_opened h kind) ≡ false
opening_few base h place kind free few also = by_test (forces_connect h kind) refl where
  by_test : (b : Bool) → forces_connect h kind ≡ b → is_crowded h (1 + cond {A = ℕ} b 1 0) ≡ false
  by_test true forces = let due_hub = opening_waits_for base h place kind free forces in few_quiet h 2 (also due_hub.0 due_hub.1)
  by_test false forces = few_quiet h 1 few

-- each event --------------------------------------------------------------------------------------

module _ (base : Kept) (h : List Event) (limit : ℕ) where
  opening_quiet : (place : Place) (kind : Kind) → IsFree base h place → IsHubbed h place kind → is_crowded h (nodes_opened h kind) ≡ false →
      (why : Refusal) → unlimited (causes base h limit true (Opening place kind)) why ≡ false
  opening_quiet place kind free hubbed few NoHub = (hub_quiet h place kind hubbed).0
  opening_quiet place kind free hubbed few Gone = (place_quiet base h place free).0
  opening_quiet place kind free hubbed few WrongKind = (place_quiet base h place free).1
  opening_quiet place kind free hubbed few PlaceTaken = (place_quiet base h place free).2
  opening_quiet place kind free hubbed few NothingOwed = (place_quiet base h place free).3
  opening_quiet place kind free hubbed few HubOrder = (hub_quiet h place kind hubbed).1
  opening_quiet place kind free hubbed few TooMany = few
  opening_quiet place kind free hubbed few _ = refl

  publishing_quiet : (mode : Mode) → length (hubs h) < most_hubs → (why : Refusal) → unlimited (causes base h limit true (Publishing mode)) why ≡ false
  publishing_quiet mode few TooMany = le-ltb most_hubs (length (hubs h) + 1) (omega arith)
  publishing_quiet mode few _ = refl

  connecting_quiet : (g : ℕ) → at is_manual_hub h g ≡ true → open_connections h g ≡ [] → length (open_nodes h) < most_nodes →
      (why : Refusal) → unlimited (causes base h limit true (Connecting g)) why ≡ false
  connecting_quiet g manual none few NoHub = ap not (manual_made (slice_get h g) manual)
  connecting_quiet g manual none few WrongKind = ap not manual
  connecting_quiet g manual none few Connected = ap (λ (l : List ℕ). nat_lt 0 (length l)) none
  connecting_quiet g manual none few TooMany = few_quiet h 1 (omega arith)
  connecting_quiet g manual none few _ = refl

  disconnecting_quiet : (g c : ℕ) → is_open h c ≡ true → slice_get h c ≡ Some (Connect g) → at is_manual_hub h g ≡ true →
      (why : Refusal) → unlimited (causes base h limit true (Disconnecting g)) why ≡ false
  disconnecting_quiet g c o made manual NoHub = ap not (manual_made (slice_get h g) manual)
  disconnecting_quiet g c o made manual WrongKind = ap not manual
  disconnecting_quiet g c o made manual NotConnected = ap not (connected_by h g c o made)
  disconnecting_quiet g c o made manual _ = refl

  emitting_quiet : (l : ℕ) (v : ℤ) → is_open h l ≡ true → at is_leaf h l ≡ true → visits h l ≤ most_visits →
      (why : Refusal) → unlimited (causes base h limit true (Emitting l v)) why ≡ false
  emitting_quiet l v o leaf few Gone = ap not o
  emitting_quiet l v o leaf few WrongKind = ap not leaf
  emitting_quiet l v o leaf few TooMany = le-ltb most_visits (visits h l) few
  emitting_quiet l v o leaf few _ = refl

  holding_quiet : (n tag : ℕ) → is_open h n ≡ true → (why : Refusal) → unlimited (causes base h limit true (Holding n tag)) why ≡ false
  holding_quiet n tag o Gone = ap not o
  holding_quiet n tag o _ = refl

  applying_quiet : (r : ℕ) → is_held h r ≡ true → (why : Refusal) → unlimited (causes base h limit true (Applying r)) why ≡ false
  applying_quiet r held NotHeld = ap not held
  applying_quiet r held _ = refl

  removing_quiet : (r : ℕ) → is_owned h r ≡ true → (why : Refusal) → unlimited (causes base h limit true (Removing r)) why ≡ false
  removing_quiet r owned NotHeld = ap not (owned_held h r owned)
  removing_quiet r owned Leased = ap not owned
  removing_quiet r owned _ = refl

  leasing_quiet : (r : ℕ) → is_owned h r ≡ true → (why : Refusal) → unlimited (causes base h limit true (Leasing r)) why ≡ false
  leasing_quiet r owned NotHeld = ap not (owned_held h r owned)
  leasing_quiet r owned Leased = ap not owned
  leasing_quiet r owned _ = refl

  returning_quiet : (l : ℕ) → is_out h l ≡ true → (why : Refusal) → unlimited (causes base h limit true (GivingBack l)) why ≡ false
  returning_quiet l out NoLease = ap not out
  returning_quiet l out _ = refl

  ending_quiet : (n : ℕ) (t : Terminal) → is_open h n ≡ true → at is_leaf h n ≡ true → (why : Refusal) → unlimited (causes base h limit true (Ending n t)) why ≡ false
  ending_quiet n t o leaf Gone = ap not o
  ending_quiet n t o leaf WrongKind = ap not leaf
  ending_quiet n t o leaf _ = refl

  declining_quiet : (f : ℕ) → is_open h f ≡ true → at is_merging h f ≡ true → 0 < owed base h f →
      (why : Refusal) → unlimited (causes base h limit true (Declining f)) why ≡ false
  declining_quiet f o merging owes Gone = ap not o
  declining_quiet f o merging owes WrongKind = ap not merging
  declining_quiet f o merging owes NothingOwed = owed_some (owed base h f) owes
  declining_quiet f o merging owes _ = refl

  failing_quiet : (f code : ℕ) → is_open h f ≡ true → at is_merging h f ≡ true → 0 < owed base h f →
      (why : Refusal) → unlimited (causes base h limit true (Failing f code)) why ≡ false
  failing_quiet f code o merging owes Gone = ap not o
  failing_quiet f code o merging owes WrongKind = ap not merging
  failing_quiet f code o merging owes NothingOwed = owed_some (owed base h f) owes
  failing_quiet f code o merging owes _ = refl

  aborting_quiet : (n code : ℕ) → is_open h n ≡ true → at may_abort h n ≡ true → has_open_child h n ≡ false →
      (why : Refusal) → unlimited (causes base h limit true (Aborting n code)) why ≡ false
  aborting_quiet n code o aborts childless Gone = ap not o
  aborting_quiet n code o aborts childless WrongKind = ap not aborts
  aborting_quiet n code o aborts childless HasChild = childless
  aborting_quiet n code o aborts childless _ = refl

  disposing_quiet : (n : ℕ) → is_open h n ≡ true → at is_root h n ≡ true → (why : Refusal) → unlimited (causes base h limit true (Disposing n)) why ≡ false
  disposing_quiet n o root Gone = ap not o
  disposing_quiet n o root NotRoot = ap not root
  disposing_quiet n o root _ = refl

-- ends with an error ------------------------------------------------------------------------------

abort_no_leaf : (o : Option Event) → option_map_or may_abort o false ≡ true → option_map_or is_leaf o false ≡ false
abort_no_leaf o aborts = grind arith

merging_no_leaf : (o : Option Event) → option_map_or is_merging o false ≡ true → option_map_or is_leaf o false ≡ false
merging_no_leaf o merging = grind arith

childless : (h : List Event) (n : ℕ) → ((d : ℕ) → parent h d ≡ Some n → is_open h d ≡ false) → has_open_child h n ≡ false
childless h n closed = false_from_ne_true (has_open_child h n) (λ found. by_child (list_any_found (is_open_child_of h n) (places h) found)) where
  below : (o : Option ℕ) → option_map_or (λ q. q == n) o false ≡ true → o ≡ Some n
  below None is = absurd (false≢true is)
  below (Some q) is = ap (λ m. Some m) (eqb-true q n is)

  by_child : (i : ℕ) × (d : ℕ) × (slice_get (places h) i ≡ Some d) × (is_open_child_of h n d ≡ true) → ⊥
  by_child found =
      let parts = and_parts (is_open h found.1) (option_map_or (λ q. q == n) (parent h found.1) false) found.3 in
      both_ways (is_open h found.1) (closed found.1 (below (parent h found.1) parts.1)) parts.0

-- a node that owes something fails at that, and any other is aborted
failed : (base : Kept) → (h : List Event) (limit n code : ℕ) → is_open h n ≡ true → may_fail base h n ≡ true → IsQuiet base h limit (call_failing base h n code)
failed base h limit n code o may = subst (λ call. IsQuiet base h limit call) (sym is) (record {
  quiet = failing_quiet base h limit n code o parts.0 (ltb-true 0 (owed base h n) parts.1);
  ready = tt;
})
  where
    parts : (at is_merging h n ≡ true) × (nat_lt 0 (owed base h n) ≡ true)
    parts = and_parts _ _ may

    is : call_failing base h n code ≡ Failing n code
    is = failing_other base h n code true (merging_no_leaf (slice_get h n) parts.0) may

abort_quiet : (base : Kept) → (h : List Event) (limit n code : ℕ) → is_open h n ≡ true → at may_abort h n ≡ true → has_open_child h n ≡ false →
    IsQuiet base h limit (call_failing base h n code)
abort_quiet base h limit n code o aborts none = by_test (cases_Bool (may_fail base h n)) where
  by_test : (may_fail base h n ≡ true) ⊎ (may_fail base h n ≡ false) → IsQuiet base h limit (call_failing base h n code)
  by_test (inl may) = failed base h limit n code o may
  by_test (inr may) = subst (λ call. IsQuiet base h limit call) (sym (failing_other base h n code false (abort_no_leaf (slice_get h n) aborts) may)) (record {
    quiet = aborting_quiet base h limit n code o aborts none;
    ready = tt;
  })

leaf_quiet : (base : Kept) → (h : List Event) (limit n : ℕ) (t : Terminal) → is_open h n ≡ true → at is_leaf h n ≡ true →
    IsQuiet base h limit (call_behind base h (End n t))
leaf_quiet base h limit n Completed o leaf = record { quiet = ending_quiet base h limit n Completed o leaf; ready = tt }
leaf_quiet base h limit n (Error code) o leaf = subst (λ call. IsQuiet base h limit call) (sym (failing_leaf base h n code leaf)) (record {
  quiet = ending_quiet base h limit n (Error code) o leaf;
  ready = tt;
})

-- closings ----------------------------------------------------------------------------------------

closing_is : (base : Kept) → (h : List Event) (limit n : ℕ) (o : Option ℕ) → hub_disconnected h n ≡ o →
    IsQuiet base h limit (option_map_or (λ g. Disconnecting g) o (Disposing n)) → IsQuiet base h limit (call_behind base h (Close n))
closing_is base h limit n o is quiet =
    subst (λ (p : Option ℕ). IsQuiet base h limit (option_map_or (λ g. Disconnecting g) p (Disposing n))) (sym is) quiet

-- all events --------------------------------------------------------------------------------------

pub allowed_quiet : (base : Kept) → (h : List Event) (limit : ℕ) (e : Event) → IsAllowed base h e → IsQuiet base h limit (call_behind base h e)
allowed_quiet base h limit (Open place kind) (opened free hubbed few also) =
    record { quiet = opening_quiet base h limit place kind free hubbed (opening_few base h place kind free few also); ready = tt }
allowed_quiet base h limit (Hub mode) (published few) = record { quiet = publishing_quiet base h limit mode few; ready = tt }
allowed_quiet base h limit (Connect g) (connected manual none few) = record { quiet = connecting_quiet base h limit g manual none few; ready = tt }
allowed_quiet base h limit (Accept n tag) (accepted o) = record { quiet = holding_quiet base h limit n tag o; ready = tt }
allowed_quiet base h limit (Use r) (used held) = record { quiet = applying_quiet base h limit r held; ready = tt }
allowed_quiet base h limit (Remove r) (removed owned) = record { quiet = removing_quiet base h limit r owned; ready = tt }
allowed_quiet base h limit (Lease r) (leased owned) = record { quiet = leasing_quiet base h limit r owned; ready = tt }
allowed_quiet base h limit (Return l) (returned out) = record { quiet = returning_quiet base h limit l out; ready = tt }
allowed_quiet base h limit (Item l v) (emitted o leaf few) = record { quiet = emitting_quiet base h limit l v o leaf few; ready = tt }
allowed_quiet base h limit (Decline f) (declined o merging owes) = record { quiet = declining_quiet base h limit f o merging owes; ready = tt }
allowed_quiet base h limit (End n t) (leaf_ended o leaf) = leaf_quiet base h limit n t o leaf
allowed_quiet base h limit (End n (Error c)) (aborted o aborts closed) = abort_quiet base h limit n c o aborts (childless h n closed)
allowed_quiet base h limit (End f (Error c)) (projection_failed o merging owes) =
    failed base h limit f c o (and_from _ _ merging (lt-ltb 0 (owed base h f) owes))
allowed_quiet base h limit (Close n) (root_closed o root) =
    closing_is base h limit n None (root_disconnects h n o root) (record { quiet = disposing_quiet base h limit n o root; ready = tt })
allowed_quiet base h limit (Close c) (disconnected {g = g} o made manual) =
    closing_is base h limit c (Some g) (is_disconnected h c g o made) (record { quiet = disconnecting_quiet base h limit g c o made manual; ready = tt })
allowed_quiet base h limit (Take r) (taken waits) = record { quiet = λ why. taking_quiet why; ready = waits } where
  taking_quiet : (why : Refusal) → unlimited (causes base h limit true (Taking r)) why ≡ false
  taking_quiet Full = refl
  taking_quiet _ = refl
