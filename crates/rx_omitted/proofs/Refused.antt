-- What stands against a call, without what is left out.
use Rattle.rx_event.proofs.Laws.Common.{is_open, makes_hub, ◌≡◌, ℕ, ◌+◌, Bool, true, false, List, [], ◌∷◌, Some, None, cond, nat_lt, map}
use Rattle.rx_event.proofs.Laws.Common.{refl, sym, ap, ◌∙◌, not, ◌||◌, ◌==◌, Kept, both_ways}
use Rattle.rx_event.proofs.Laws.Common.{list_any, has_source, is_merging, is_until, is_root, is_manual_hub, at, ancestors}
use Rattle.rx_event.proofs.Laws.Common.{IsLawful, most_visits, same_Some, none-some, place_by, event_by}
use Rattle.rx_event.specs.Events.{is_leaf}
use Rattle.rx_event.specs.Allowed.{may_abort, most_hubs}
use Rattle.rx_event.specs.Renumbered.{kind_by, call_by}
use Rattle.rx_event.specs.Refusals.{first_of_these}
use Rattle.rx_event.specs.Causes.{is_without_hub, is_out_of_order, connects_up_to, is_gone, is_wrong_place, is_taken_place, is_unowed_place, is_crowded}
use Rattle.rx_event.specs.Causes.{causes, is_over, added_by, projecting_causes}
use Rattle.rx_event.specs.Calls.{Call, Opening, OpeningUsing, Holding, Applying, Removing, Leasing, GivingBack, Emitting, Ending, Aborting, Declining}
use Rattle.rx_event.specs.Calls.{Failing, Disposing, Publishing, Connecting, Disconnecting}
use Rattle.rx_event.specs.declared.refusal.Refusal.{Refusal}
use Rattle.rx_event.specs.declared.refusal.Refusal.TheVariants.{Full, Gone, WrongKind, PlaceTaken, NothingOwed, NotRoot, NoHub, HubOrder, Connected}
use Rattle.rx_event.specs.declared.refusal.Refusal.TheVariants.{NotConnected, NoLease, NotHeld, Leased, HasChild, TooMany}
use Rattle.rx_omitted.specs.Imports.{Event, Connect, Place, Root, Source, Inner, Notifier, Kind, Sub}
use Rattle.rx_omitted.specs.Named.{named_in, named_in_place, named_in_kind, named_in_call, Stay_all}
use Rattle.rx_omitted.specs.Omitted.{number, what_stays}
use Rattle.rx_omitted.proofs.Omits.{Omits}
use Rattle.rx_omitted.specs.Claims.{is_of_room}
use Rattle.rx_event.proofs.Laws.ReadAllowed.{leaf_by, sourced_by, abort_by, until_by}
use Rattle.rx_event.proofs.Laws.ReadShown.{root_by}
use Rattle.rx_event.proofs.Laws.TreeRead.{merging_by}
use Rattle.rx_omitted.proofs.Numbers.{number_less}
use Rattle.rx_omitted.proofs.Staying.{at_by}
use Rattle.rx_omitted.proofs.Tests.{manual_by}
use Rattle.rx_omitted.proofs.Tree.{open_by, ancestors_by, ancestors_stay}
use Rattle.rx_omitted.proofs.Fared.{owned_by, out_by, held_by, hub_there, has_child_by}
use Rattle.rx_omitted.proofs.Reached.{visits_by}
use Rattle.rx_omitted.proofs.Kept.{source_opened_by, notifier_opened_by, owed_by}
use Rattle.rx_omitted.proofs.May.{many_hubs, place_stays}
use Rattle.rx_omitted.proofs.Rooms.{has_connection_by, kind_stays, crowded_by, nodes_opened_by, over_by}

-- the cause stands there where it stands here; one of room may stand here alone
pub data Eased (why : Refusal) (q p : Bool) : Type 0 where
  is_same : q ≡ p → Eased why q p
  has_room : is_of_room why ≡ true → (q ≡ true → p ≡ true) → Eased why q p

module _ (base : Kept) (omit : ℕ → Bool) (h : List Event) (a : Omits base omit h) (law : IsLawful base h) where
  -- tests of places --------------------------------------------------------------------------------------------------

  is_by : (t : Event → Bool) → ((r : ℕ → ℕ) (e : Event) → t (event_by r e) ≡ t e) → (n : ℕ) → omit n ≡ false →
      at t (what_stays omit h) (number omit n) ≡ at t h n
  is_by t by n stay = at_by base omit h a t t (λ e all. by (number omit) e) n stay

  without_hub_by : (kind : Kind) → Stay_all omit (named_in_kind kind) → is_without_hub (what_stays omit h) (kind_by (number omit) kind) ≡ is_without_hub h kind
  without_hub_by (Sub g) all = ap not (hub_there base omit h a g all.0)
  without_hub_by _ all = refl

  gone_by : (place : Place) → Stay_all omit (named_in_place place) → is_gone (what_stays omit h) (place_by (number omit) place) ≡ is_gone h place
  gone_by Root all = refl
  gone_by (Source p) all = ap not (open_by base omit h a p all.0)
  gone_by (Inner p) all = ap not (open_by base omit h a p all.0)
  gone_by (Notifier p) all = ap not (open_by base omit h a p all.0)

  wrong_by : (place : Place) → Stay_all omit (named_in_place place) → is_wrong_place (what_stays omit h) (place_by (number omit) place) ≡ is_wrong_place h place
  wrong_by Root all = refl
  wrong_by (Source p) all = ap not (is_by has_source sourced_by p all.0)
  wrong_by (Inner p) all = ap not (is_by is_merging merging_by p all.0)
  wrong_by (Notifier p) all = ap not (is_by is_until until_by p all.0)

  taken_by : (place : Place) → Stay_all omit (named_in_place place) →
      is_taken_place base (what_stays omit h) (place_by (number omit) place) ≡ is_taken_place base h place
  taken_by Root all = refl
  taken_by (Source p) all = source_opened_by base omit h a law p all.0
  taken_by (Inner p) all = refl
  taken_by (Notifier p) all = notifier_opened_by base omit h a law p all.0

  unowed_by : (place : Place) → Stay_all omit (named_in_place place) →
      is_unowed_place base (what_stays omit h) (place_by (number omit) place) ≡ is_unowed_place base h place
  unowed_by (Inner p) all = ap (λ n. n == 0) (owed_by base omit h a law p all.0)
  unowed_by _ all = refl

  up_to_by : (g : ℕ) → omit g ≡ false → (e : Event) → Stay_all omit (named_in e) →
      connects_up_to (number omit g) (event_by (number omit) e) ≡ connects_up_to g e
  up_to_by g up (Connect k) all = ap not (number_less omit g k up)
  up_to_by g up _ all = refl

  any_up_to : (g : ℕ) → omit g ≡ false → (ns : List ℕ) → Stay_all omit ns →
      list_any (at (connects_up_to (number omit g)) (what_stays omit h)) (map (number omit) ns) ≡ list_any (at (connects_up_to g) h) ns
  any_up_to g up [] all = refl
  any_up_to g up (n ∷ ns) all = λ i. at_by base omit h a (connects_up_to g) (connects_up_to (number omit g))
      (up_to_by g up) n all.0 i || any_up_to g up ns all.1 i

  order_at : (g p : ℕ) → omit g ≡ false → omit p ≡ false →
      list_any (at (connects_up_to (number omit g)) (what_stays omit h)) (ancestors (what_stays omit h) (number omit p)) ≡ list_any
      (at (connects_up_to g) h) (ancestors h p)
  order_at g p up stay = ap (list_any (at (connects_up_to (number omit g)) (what_stays omit h))) (ancestors_by base omit h a p stay) ∙
      any_up_to g up (ancestors h p) (ancestors_stay base omit h a p stay)

  order_by : (place : Place) (kind : Kind) → Stay_all omit (named_in_call (Opening place kind)) →
      is_out_of_order (what_stays omit h) (place_by (number omit) place) (kind_by (number omit) kind) ≡ is_out_of_order h place kind
  order_by Root (Sub g) all = refl
  order_by (Source p) (Sub g) all = order_at g p all.1.0 all.0
  order_by (Inner p) (Sub g) all = order_at g p all.1.0 all.0
  order_by (Notifier p) (Sub g) all = order_at g p all.1.0 all.0
  order_by place _ all = refl

  -- the rows -----------------------------------------------------------------------------------------------------------

  open_eased : {why : Refusal} (n : ℕ) → Stay_all omit (n ∷ []) → Eased why (not (is_open (what_stays omit h) (number omit n))) (not (is_open h n))
  open_eased n all = is_same (ap not (open_by base omit h a n all.0))

  is_eased : {why : Refusal} (t : Event → Bool) → ((r : ℕ → ℕ) (e : Event) → t (event_by r e) ≡ t e) → (n : ℕ) → Stay_all omit (n ∷ []) →
      Eased why (not (at t (what_stays omit h) (number omit n))) (not (at t h n))
  is_eased t by n all = is_same (ap not (is_by t by n all.0))

  hub_eased : {why : Refusal} (g : ℕ) → Stay_all omit (g ∷ []) → Eased why (not (at makes_hub (what_stays omit h) (number omit g))) (not (at makes_hub h g))
  hub_eased g all = is_same (ap not (hub_there base omit h a g all.0))

  projecting_eased : (f : ℕ) → Stay_all omit (f ∷ []) → (why : Refusal) →
      Eased why (projecting_causes base (what_stays omit h) (number omit f) why) (projecting_causes base h f why)
  projecting_eased f all Gone = open_eased f all
  projecting_eased f all WrongKind = is_eased is_merging merging_by f all
  projecting_eased f all NothingOwed = is_same (ap (λ n. n == 0) (owed_by base omit h a law f all.0))
  projecting_eased f all _ = is_same refl

  full_eased : (limit : ℕ) (call : Call) → Stay_all omit (named_in_call call) →
      Eased Full (is_over base (what_stays omit h) limit (added_by (what_stays omit h) (call_by (number omit) call))) (is_over base h limit (added_by h call))
  full_eased limit call all = has_room refl (over_by base omit h a law limit call all)

  pub eased : (limit : ℕ) (is_fresh : Bool) (call : Call) → Stay_all omit (named_in_call call) → (why : Refusal) →
      Eased why (causes base (what_stays omit h) limit is_fresh (call_by (number omit) call) why) (causes base h limit is_fresh call why)
  eased limit is_fresh (Opening place kind) all NoHub = is_same (without_hub_by kind (kind_stays base omit h a place kind all))
  eased limit is_fresh (Opening place kind) all Gone = is_same (gone_by place (place_stays base omit h a law place kind all))
  eased limit is_fresh (Opening place kind) all WrongKind = is_same (wrong_by place (place_stays base omit h a law place kind all))
  eased limit is_fresh (Opening place kind) all PlaceTaken = is_same (taken_by place (place_stays base omit h a law place kind all))
  eased limit is_fresh (Opening place kind) all NothingOwed = is_same (unowed_by place (place_stays base omit h a law place kind all))
  eased limit is_fresh (Opening place kind) all HubOrder = is_same (order_by place kind all)
  eased limit is_fresh (Opening place kind) all TooMany = has_room refl (λ stands. crowded_by base omit h a law _
      (ap (is_crowded (what_stays omit h)) (sym (nodes_opened_by base omit h a kind (kind_stays base omit h a place kind all))) ∙ stands))
  eased limit is_fresh (Opening place kind) all Full = full_eased limit (Opening place kind) all
  eased limit is_fresh (OpeningUsing place tag) all Gone = is_same (gone_by place all)
  eased limit is_fresh (OpeningUsing place tag) all WrongKind = is_same (wrong_by place all)
  eased limit is_fresh (OpeningUsing place tag) all PlaceTaken = is_same (taken_by place all)
  eased limit is_fresh (OpeningUsing place tag) all NothingOwed = is_same (unowed_by place all)
  eased limit is_fresh (OpeningUsing place tag) all TooMany = has_room refl (crowded_by base omit h a law 1)
  eased limit is_fresh (OpeningUsing place tag) all Full = full_eased limit (OpeningUsing place tag) all
  eased limit is_fresh (Holding n tag) all Gone = open_eased n all
  eased limit is_fresh (Holding n tag) all Full = full_eased limit (Holding n tag) all
  eased limit is_fresh (Applying q) all NotHeld = is_same (ap not (held_by base omit h a q all.0))
  eased limit is_fresh (Applying q) all Full = full_eased limit (Applying q) all
  eased limit is_fresh (Removing q) all NotHeld = is_same (ap not (held_by base omit h a q all.0))
  eased limit is_fresh (Removing q) all Leased = is_same (ap not (owned_by base omit h a q all.0))
  eased limit is_fresh (Leasing q) all NotHeld = is_same (ap not (held_by base omit h a q all.0))
  eased limit is_fresh (Leasing q) all Leased = is_same (ap not (owned_by base omit h a q all.0))
  eased limit is_fresh (Leasing q) all Full = full_eased limit (Leasing q) all
  eased limit is_fresh (GivingBack l) all NoLease = is_same (ap not (out_by base omit h a l all.0))
  eased limit is_fresh (Emitting l v) all Gone = open_eased l all
  eased limit is_fresh (Emitting l v) all WrongKind = is_eased is_leaf leaf_by l all
  eased limit is_fresh (Emitting l v) all TooMany = is_same (ap (nat_lt most_visits) (visits_by base omit h a l all.0))
  eased limit is_fresh (Emitting l v) all Full = full_eased limit (Emitting l v) all
  eased limit is_fresh (Ending l t) all Gone = open_eased l all
  eased limit is_fresh (Ending l t) all WrongKind = is_eased is_leaf leaf_by l all
  eased limit is_fresh (Aborting n code) all Gone = open_eased n all
  eased limit is_fresh (Aborting n code) all WrongKind = is_eased may_abort abort_by n all
  eased limit is_fresh (Aborting n code) all HasChild = is_same (has_child_by base omit h a n all.0)
  eased limit is_fresh (Declining f) all why = projecting_eased f all why
  eased limit is_fresh (Failing f code) all why = projecting_eased f all why
  eased limit is_fresh (Disposing n) all Gone = open_eased n all
  eased limit is_fresh (Disposing n) all NotRoot = is_eased is_root root_by n all
  eased limit is_fresh (Publishing mode) all TooMany = is_same (ap (λ n. nat_lt most_hubs (n + 1)) (many_hubs base omit h a law))
  eased limit is_fresh (Publishing mode) all Full = full_eased limit (Publishing mode) all
  eased limit is_fresh (Connecting g) all NoHub = hub_eased g all
  eased limit is_fresh (Connecting g) all WrongKind = is_eased is_manual_hub manual_by g all
  eased limit is_fresh (Connecting g) all Connected = is_same (has_connection_by base omit h a g all.0)
  eased limit is_fresh (Connecting g) all TooMany = has_room refl (crowded_by base omit h a law 1)
  eased limit is_fresh (Connecting g) all Full = full_eased limit (Connecting g) all
  eased limit is_fresh (Disconnecting g) all NoHub = hub_eased g all
  eased limit is_fresh (Disconnecting g) all WrongKind = is_eased is_manual_hub manual_by g all
  eased limit is_fresh (Disconnecting g) all NotConnected = is_same (ap not (has_connection_by base omit h a g all.0))
  eased limit is_fresh call all why = is_same refl

-- the first cause ------------------------------------------------------------------------------------------------------

pub eased_same : {why : Refusal} {q p : Bool} → Eased why q p → is_of_room why ≡ false → q ≡ p
eased_same (is_same same) other = same
eased_same {why} (has_room room stands) other = absurd (both_ways (is_of_room why) other room)

pub eased_stands : {why : Refusal} {q p : Bool} → Eased why q p → q ≡ true → p ≡ true
eased_stands (is_same same) stands = sym same ∙ stands
eased_stands (has_room room more) stands = more stands

pub first_none : (p q : Refusal → Bool) → ((why : Refusal) → q why ≡ true → p why ≡ true) → (order : List Refusal) → first_of_these p order ≡ None →
    first_of_these q order ≡ None
first_none p q eases [] none = refl
first_none p q eases (x ∷ xs) none = by_test (p x) refl (q x) refl none (first_none p q eases xs) where
  by_test : (b : Bool) → p x ≡ b → (c : Bool) → q x ≡ c → cond b (Some x) (first_of_these p xs) ≡ None →
      (first_of_these p xs ≡ None → first_of_these q xs ≡ None) →
      cond c (Some x) (first_of_these q xs) ≡ None
  by_test false here false there is rest = rest is
  by_test false here true there is rest = absurd (both_ways (p x) here (eases x there))
  by_test true here c there is rest = absurd (none-some x (sym is))

pub first_same : (p q : Refusal → Bool) → ((why : Refusal) → q why ≡ true → p why ≡ true) → (cause : Refusal) → q cause ≡ p cause → (order : List Refusal) →
    first_of_these p order ≡ Some cause → first_of_these q order ≡ Some cause
first_same p q eases cause same [] found = absurd (none-some cause found)
first_same p q eases cause same (x ∷ xs) found = by_test (p x) refl (q x) refl found (first_same p q eases cause same xs) where
  by_test : (b : Bool) → p x ≡ b → (c : Bool) → q x ≡ c → cond b (Some x) (first_of_these p xs) ≡ Some cause →
      (first_of_these p xs ≡ Some cause → first_of_these q xs ≡ Some cause) → cond c (Some x) (first_of_these q xs) ≡ Some cause
  by_test false here false there is rest = rest is
  by_test false here true there is rest = absurd (both_ways (p x) here (eases x there))
  by_test true here true there is rest = is
  by_test true here false there is rest =
      absurd (both_ways (q x) there (ap q (same_Some x cause is) ∙ same ∙ ap p (sym (same_Some x cause is)) ∙ here))
