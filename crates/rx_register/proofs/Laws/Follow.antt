-- Where no cause stands against a call in a settled history, the call's events may follow.
use Rattle.std.proofs.Common.{◌≡◌, ℕ, ℤ, suc, ◌+◌, ◌<◌, ◌≤◌, Bool, true, false, List, [], ◌∷◌, ◌++◌, length, Option, Some}
use Rattle.std.proofs.Common.{None, cond, refl, ap, subst, ◌∙◌, arith, inl, inr, ◌⊎◌, ◌==◌, nat_lt, length-append, get_or, rules}
use Rattle.std.proofs.Math.Bool.{◌&&◌}
use Rattle.std.specs.List.{list_any}
use Rattle.std.proofs.lemmas.Bool.{cases_Bool, not-false, ltb-false, ltb-true, false≢true, both_ways, and_parts, eqb-true, eq-eqb}
use Rattle.std.proofs.lemmas.List.Folds.{list_any_at}
use Rattle.std.proofs.lemmas.List.FromFn.{length-range_with_len, get_or-range_with_len}
use Rattle.std.proofs.lemmas.List.Sums.{length-filter}
use Rattle.rx_event.specs.Kept.{Kept}
use Rattle.rx_event.specs.declared.refusal.Refusal.{Refusal}
use Rattle.rx_event.specs.Events.{is_connect_of}
use Rattle.rx_event.specs.Moments.{owed}
use Rattle.rx_event.specs.Resources.{is_waiting}
use Rattle.rx_event.specs.Climb.{visits}
use Rattle.rx_event.specs.Climb.{most_visits}
use Rattle.rx_event.specs.Totals.{open_count}
use Rattle.rx_event.specs.Forced.{IsConnectDue, IsSettled}
use Rattle.rx_event.specs.Refusals.{first_cause}
use Rattle.rx_note.specs.declared.note.Terminal.{Terminal}
use Rattle.rx_note.specs.declared.note.Terminal.TheVariants.{Error}
use Rattle.rx_event.specs.declared.event.Place.{Place}
use Rattle.rx_event.specs.declared.event.Kind.{Kind}
use Rattle.rx_event.specs.declared.event.Kind.TheVariants.{Pass, Sub}
use Rattle.rx_event.specs.declared.event.Mode.{Mode}
use Rattle.rx_event.specs.declared.event.Event.{Event}
use Rattle.rx_event.specs.declared.event.Place.TheVariants.{Root, Source, Inner, Notifier}
use Rattle.rx_event.specs.declared.event.Event.TheVariants.{Open, Hub, Connect, Accept, Use, Remove, Lease, Return, Item, Decline, End, Close, Take}
use Rattle.rx_event.specs.declared.refusal.Refusal.TheVariants.{Gone, WrongKind, PlaceTaken, NothingOwed, NotRoot, NoHub, HubOrder, Connected, NotConnected}
use Rattle.rx_event.specs.declared.refusal.Refusal.TheVariants.{NoLease, NotHeld, Leased, HasChild, TooMany}
use Rattle.rx_event.specs.Tree.{at, places, parent, ancestors, is_open, is_open_child_of, has_open_child, open_nodes, open_connections}
use Rattle.rx_event.specs.Allowed.{IsFree, IsHubbed, IsInOrder, IsInOrderAt, most_nodes, most_hubs, opened, published, connected, accepted, used, removed}
use Rattle.rx_event.specs.Allowed.{leased, returned, emitted, declined, leaf_ended, aborted, projection_failed, root_closed, disconnected, taken}
use Rattle.rx_event.specs.Lawful.{MayFollow, IsLawful, allowed, opened_with}
use Rattle.rx_event.specs.Calls.{Opening, OpeningUsing, Holding, Applying, Removing, Leasing, GivingBack, Emitting}
use Rattle.rx_event.specs.Calls.{Ending, Aborting, Declining, Failing, Disposing, Publishing, Connecting}
use Rattle.rx_event.proofs.Laws.Lists.{first_passes}
use Rattle.rx_event.proofs.Laws.Places.{slice_get_last}
use Rattle.rx_event.proofs.Laws.Openness.{is_open_within}
use Rattle.rx_event.proofs.Laws.Totals.{is_open_new}
use Rattle.rx_event.proofs.Laws.Hubs.{at_connect, one_open_connection}
use Rattle.rx_event.specs.Causes.{causes, is_gone, is_wrong_place, is_taken_place, is_unowed_place, is_without_hub, is_out_of_order}
use Rattle.rx_event.specs.Causes.{connects_up_to, nodes_opened, is_crowded, opening_causes, using_causes, disconnecting_causes}
use Rattle.rx_register.proofs.Laws.NoCause.{no_cause}
use Rattle.rx_register.proofs.Laws.OpeningForcesConnection.{opening_connects, connects_none, connects_one}

-- places and hubs ---------------------------------------------------------------------------------

some_owed : (n : ℕ) → (n == 0) ≡ false → 0 < n
some_owed x0 none = search (rules, false≢true)

-- a place that is there, not taken, and owed where it is an inner's, is free
pub free_where : (base : Kept) → (h : List Event) (place : Place) → is_gone h place ≡ false → is_wrong_place h place ≡ false →
    is_taken_place base h place ≡ false → is_unowed_place base h place ≡ false → IsFree base h place
free_where base h x2 gone wrong first unowed = search (rules, not-false, some_owed)

-- what no element of a list has, this one of them has not
none_has : (q : ℕ → Bool) (xs : List ℕ) (a : ℕ) → list_any (λ b. a == b) xs ≡ true → list_any q xs ≡ false → q a ≡ false
none_has q [] a found none = absurd (false≢true found)
none_has q (x ∷ xs) a found none = search (rules, Bool, false≢true, eqb-true, none_has q xs a)

in_order_at : (h : List Event) (g p : ℕ) → list_any (at (connects_up_to g) h) (ancestors h p) ≡ false → IsInOrderAt h g p
in_order_at h g p none a k within connects =
    search (rules, none_has, ltb-true, not-false, nat_lt, Option)

pub in_order : (h : List Event) (place : Place) (g : ℕ) → is_out_of_order h place (Sub g) ≡ false → IsInOrder h g place
in_order h Root g none = tt
in_order h (Source p) g none = in_order_at h g p none
in_order h (Inner p) g none = in_order_at h g p none
in_order h (Notifier p) g none = in_order_at h g p none

-- the hub of a subscriber is there, and in order
pub hubbed_where : (h : List Event) (place : Place) (kind : Kind) → is_without_hub h kind ≡ false → is_out_of_order h place kind ≡ false → IsHubbed h place kind
hubbed_where h place x2 there order = search (rules, not-false, in_order)

-- no more nodes are open than may be
few_where : (h : List Event) (more : ℕ) → is_crowded h more ≡ false → open_count h + more ≤ most_nodes
few_where h more few = ltb-false most_nodes (open_count h + more) few

-- openings ----------------------------------------------------------------------------------------

-- what is known of a place where a node may be opened
record MayOpen (base : Kept) (h : List Event) (place : Place) (kind : Kind) : Type 0 where
  pub lawful : IsLawful base h
  pub settled : IsSettled base h
  pub free : IsFree base h place
  pub hubbed : IsHubbed h place kind
  pub few : open_count h + nodes_opened h kind ≤ most_nodes

may_open : (base : Kept) → (h : List Event) (place : Place) (kind : Kind) → MayOpen base h place kind → MayFollow base h (Open place kind)
may_open base h place kind m = allowed m.settled (opened m.free m.hubbed few also) where
  count : length (open_nodes h) ≡ open_count h
  count = length-filter (is_open h) (places h)

  few : length (open_nodes h) + 1 ≤ most_nodes
  few = let f = m.few in omega (arith, count)

  also : (g : ℕ) → IsConnectDue (h ++ Open place kind ∷ []) g → length (open_nodes h) + 2 ≤ most_nodes
  also g d =
      let made : nodes_opened h kind ≡ 2 = ap (λ (b : Bool). 1 + cond b 1 0) (opening_connects h place kind g m.lawful m.settled m.hubbed d) in
      let f = m.few in
      omega (arith, count)

pub opening_follows : {base : Kept} → (h : List Event) (limit : ℕ) (is_fresh : Bool) (place : Place) (kind : Kind) → IsLawful base h → IsSettled base h →
    first_cause (causes base h limit is_fresh (Opening place kind)) ≡ None → MayFollow base h (Open place kind)
opening_follows {base} h limit is_fresh place kind law settled none = may_open base h place kind (record {
  lawful = law;
  settled = settled;
  free = free_where base h place (clear Gone) (clear WrongKind) (clear PlaceTaken) (clear NothingOwed);
  hubbed = hubbed_where h place kind (clear NoHub) (clear HubOrder);
  few = few_where h (nodes_opened h kind) (clear TooMany);
})
  where
    clear : (why : Refusal) → opening_causes base h limit place kind why ≡ false
    clear why = no_cause (opening_causes base h limit place kind) none why

pub using_follows : {base : Kept} → (h : List Event) (limit : ℕ) (is_fresh : Bool) (place : Place) (tag : ℕ) → IsLawful base h → IsSettled base h →
    first_cause (causes base h limit is_fresh (OpeningUsing place tag)) ≡ None → MayFollow base h (Open place Pass)
using_follows {base} h limit is_fresh place tag law settled none = may_open base h place Pass (record {
  lawful = law;
  settled = settled;
  free = free_where base h place (clear Gone) (clear WrongKind) (clear PlaceTaken) (clear NothingOwed);
  hubbed = tt;
  few = few_where h 1 (clear TooMany);
})
  where
    clear : (why : Refusal) → using_causes base h limit is_fresh place tag why ≡ false
    clear why = no_cause (using_causes base h limit is_fresh place tag) none why

-- and the acceptance of its resource directly after it
pub accepting_follows : (base : Kept) → (h : List Event) (place : Place) (tag : ℕ) → MayFollow base h (Open place Pass) →
    MayFollow base (h ++ Open place Pass ∷ []) (Accept (length h) tag)
accepting_follows base h place tag next =
    opened_with (slice_get_last h (Open place Pass)) (length-append h (Open place Pass ∷ [])) (is_open_new base h (Open place Pass) next)

-- resources ---------------------------------------------------------------------------------------

pub holding_follows : (base : Kept) → (h : List Event) (limit : ℕ) (is_fresh : Bool) (node tag : ℕ) → IsSettled base h →
    first_cause (causes base h limit is_fresh (Holding node tag)) ≡ None → MayFollow base h (Accept node tag)
holding_follows base h limit is_fresh node tag settled none =
    allowed settled (accepted (not-false _ (no_cause (causes base h limit is_fresh (Holding node tag)) none Gone)))

pub applying_follows : (base : Kept) → (h : List Event) (limit : ℕ) (is_fresh : Bool) (r : ℕ) → IsSettled base h →
    first_cause (causes base h limit is_fresh (Applying r)) ≡ None → MayFollow base h (Use r)
applying_follows base h limit is_fresh r settled none = allowed settled (used (not-false _ (no_cause (causes base h limit is_fresh (Applying r)) none NotHeld)))

pub removing_follows : (base : Kept) → (h : List Event) (limit : ℕ) (is_fresh : Bool) (r : ℕ) → IsSettled base h →
    first_cause (causes base h limit is_fresh (Removing r)) ≡ None → MayFollow base h (Remove r)
removing_follows base h limit is_fresh r settled none =
    allowed settled (removed (not-false _ (no_cause (causes base h limit is_fresh (Removing r)) none Leased)))

pub leasing_follows : (base : Kept) → (h : List Event) (limit : ℕ) (is_fresh : Bool) (r : ℕ) → IsSettled base h →
    first_cause (causes base h limit is_fresh (Leasing r)) ≡ None → MayFollow base h (Lease r)
leasing_follows base h limit is_fresh r settled none = allowed settled (leased (not-false _ (no_cause (causes base h limit is_fresh (Leasing r)) none Leased)))

pub returning_follows : (base : Kept) → (h : List Event) (limit : ℕ) (is_fresh : Bool) (l : ℕ) → IsSettled base h →
    first_cause (causes base h limit is_fresh (GivingBack l)) ≡ None → MayFollow base h (Return l)
returning_follows base h limit is_fresh l settled none =
    allowed settled (returned (not-false _ (no_cause (causes base h limit is_fresh (GivingBack l)) none NoLease)))

pub taking_follows : (base : Kept) → (h : List Event) (r : ℕ) → IsSettled base h → is_waiting h r ≡ true → MayFollow base h (Take r)
taking_follows base h r settled waits = allowed settled (taken waits)

-- items and ends ----------------------------------------------------------------------------------

pub emitting_follows : (base : Kept) → (h : List Event) (limit : ℕ) (is_fresh : Bool) (leaf : ℕ) (value : ℤ) → IsSettled base h →
    first_cause (causes base h limit is_fresh (Emitting leaf value)) ≡ None → MayFollow base h (Item leaf value)
emitting_follows base h limit is_fresh leaf value settled none =
    let clear = no_cause (causes base h limit is_fresh (Emitting leaf value)) none in
    allowed settled (emitted (not-false _ (clear Gone)) (not-false _ (clear WrongKind)) (ltb-false most_visits (visits h leaf) (clear TooMany)))

pub ending_follows : (base : Kept) → (h : List Event) (limit : ℕ) (is_fresh : Bool) (leaf : ℕ) (t : Terminal) → IsSettled base h →
    first_cause (causes base h limit is_fresh (Ending leaf t)) ≡ None → MayFollow base h (End leaf t)
ending_follows base h limit is_fresh leaf t settled none =
    let clear = no_cause (causes base h limit is_fresh (Ending leaf t)) none in
    allowed settled (leaf_ended (not-false _ (clear Gone)) (not-false _ (clear WrongKind)))

-- no child is open where none of all places is one's
no_child : (h : List Event) (n : ℕ) → has_open_child h n ≡ false → (d : ℕ) → parent h d ≡ Some n → is_open h d ≡ false
no_child h n none d below = by_test (cases_Bool (is_open h d)) where
  by_test : (is_open h d ≡ true) ⊎ (is_open h d ≡ false) → is_open h d ≡ false
  by_test (inr shut) = shut
  by_test (inl alive) =
      let l = is_open_within h d alive in
      let here : get_or (places h) d 0 ≡ d = get_or-range_with_len 0 (length h) d 0 l ∙ omega arith in
      let child : is_open_child_of h n d ≡ true = rw (alive, below) (eq-eqb n n refl) in
      absurd (both_ways _ none
      (list_any_at (is_open_child_of h n) (places h) d 0 (omega (arith, length-range_with_len 0 (length h))) (ap (is_open_child_of h n) here ∙ child)))

pub aborting_follows : (base : Kept) → (h : List Event) (limit : ℕ) (is_fresh : Bool) (n code : ℕ) → IsSettled base h →
    first_cause (causes base h limit is_fresh (Aborting n code)) ≡ None → MayFollow base h (End n (Error code))
aborting_follows base h limit is_fresh n code settled none =
    let clear = no_cause (causes base h limit is_fresh (Aborting n code)) none in
    allowed settled (aborted (not-false _ (clear Gone)) (not-false _ (clear WrongKind)) (no_child h n (clear HasChild)))

pub declining_follows : (base : Kept) → (h : List Event) (limit : ℕ) (is_fresh : Bool) (f : ℕ) → IsSettled base h →
    first_cause (causes base h limit is_fresh (Declining f)) ≡ None → MayFollow base h (Decline f)
declining_follows base h limit is_fresh f settled none =
    let clear = no_cause (causes base h limit is_fresh (Declining f)) none in
    allowed settled (declined (not-false _ (clear Gone)) (not-false _ (clear WrongKind)) (some_owed (owed base h f) (clear NothingOwed)))

pub failing_follows : (base : Kept) → (h : List Event) (limit : ℕ) (is_fresh : Bool) (f code : ℕ) → IsSettled base h →
    first_cause (causes base h limit is_fresh (Failing f code)) ≡ None → MayFollow base h (End f (Error code))
failing_follows base h limit is_fresh f code settled none =
    let clear = no_cause (causes base h limit is_fresh (Failing f code)) none in
    allowed settled (projection_failed (not-false _ (clear Gone)) (not-false _ (clear WrongKind)) (some_owed (owed base h f) (clear NothingOwed)))

pub disposing_follows : (base : Kept) → (h : List Event) (limit : ℕ) (is_fresh : Bool) (n : ℕ) → IsSettled base h →
    first_cause (causes base h limit is_fresh (Disposing n)) ≡ None → MayFollow base h (Close n)
disposing_follows base h limit is_fresh n settled none =
    let clear = no_cause (causes base h limit is_fresh (Disposing n)) none in
    allowed settled (root_closed (not-false _ (clear Gone)) (not-false _ (clear NotRoot)))

-- hubs --------------------------------------------------------------------------------------------

pub publishing_follows : (base : Kept) → (h : List Event) (limit : ℕ) (is_fresh : Bool) (mode : Mode) → IsSettled base h →
    first_cause (causes base h limit is_fresh (Publishing mode)) ≡ None → MayFollow base h (Hub mode)
publishing_follows base h limit is_fresh mode settled none =
    let few = ltb-false most_hubs _ (no_cause (causes base h limit is_fresh (Publishing mode)) none TooMany) in
    allowed settled (published (omega arith))

pub connecting_follows : (base : Kept) → (h : List Event) (limit : ℕ) (is_fresh : Bool) (g : ℕ) → IsSettled base h →
    first_cause (causes base h limit is_fresh (Connecting g)) ≡ None → MayFollow base h (Connect g)
connecting_follows base h limit is_fresh g settled none =
    let clear = no_cause (causes base h limit is_fresh (Connecting g)) none in
    let few = few_where h 1 (clear TooMany) in
    let count = length-filter (is_open h) (places h) in
    allowed settled (connected (not-false _ (clear WrongKind)) (connects_none h g (clear Connected)) (omega arith))

-- where no cause stands, the hub has one open connection
pub disconnecting_one : (base : Kept) → (h : List Event) (g : ℕ) → IsLawful base h → first_cause (disconnecting_causes h g) ≡ None →
    (c : ℕ) × (open_connections h g ≡ c ∷ [])
disconnecting_one base h g law none = (one.0, one.2 ∙ ap (λ l. one.0 ∷ l) (alone one.1 few)) where
  one : (c : ℕ) × (rest : List ℕ) × (open_connections h g ≡ c ∷ rest)
  one = connects_one h g (not-false _ (no_cause (disconnecting_causes h g) none NotConnected))

  few : length (one.0 ∷ one.1) ≤ 1
  few = subst (λ (l : List ℕ). length l ≤ 1) one.2 (one_open_connection base h law g)

  alone : (rest : List ℕ) → suc (length rest) ≤ 1 → rest ≡ []
  alone [] l = refl
  alone (n ∷ ns) l = absurd (omega arith)

pub disconnecting_follows : (base : Kept) → (h : List Event) (g c : ℕ) → IsSettled base h → first_cause (disconnecting_causes h g) ≡ None →
    open_connections h g ≡ c ∷ [] → MayFollow base h (Close c)
disconnecting_follows base h g c settled none first =
    let found : (at (is_connect_of g) h c && is_open h c) ≡ true = first_passes (λ n. at (is_connect_of g) h n && is_open h n) (places h) c [] first in
    let parts : (at (is_connect_of g) h c ≡ true) × (is_open h c ≡ true) = and_parts _ _ found in
    allowed settled (disconnected parts.1 (at_connect h g c parts.0) (not-false _ (no_cause (disconnecting_causes h g) none WrongKind)))
