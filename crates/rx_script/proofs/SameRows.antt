-- The same cause comes first against a call in two stored histories that agree, where the limits end at one place.
use Rattle.rx_script.proofs.Common.{◌≡◌, ℕ, ◌+◌, Bool, true, false, List, [], ◌∷◌, length, cond, refl, sym, ap, ◌∙◌, inl, inr, ◌⊎◌, ◌==◌, nat_lt, count_by, not}
use Rattle.rx_script.proofs.Common.{◌||◌, list_any, AllByRecursion, range_with_len, option_map_or, false≢true, cases_Bool, Kept, Agree, Mode, Place, Root}
use Rattle.rx_script.proofs.Common.{Source, Inner, Notifier, Kind, Sub, Event, Hub, Refusal, Full, Gone, makes_hub, at, ancestors, is_open, most_visits, owed}
use Rattle.rx_script.proofs.Common.{most_nodes, most_hubs, debt, open_count, IsLawful, first_cause, Opening, OpeningUsing, Holding, Applying, Removing, Leasing}
use Rattle.rx_script.proofs.Common.{GivingBack, Emitting, Ending, Aborting, Declining, Failing, Disposing, Publishing, Connecting, Disconnecting, Call, Alike}
use Rattle.rx_script.proofs.Common.{alike_of, connections_alike, is_gone, is_over, added_by, causes, arith}
use Rattle.std.proofs.Common.{◌*◌, rules}
use Rattle.rx_event.specs.declared.refusal.Refusal.TheVariants.{WrongKind, PlaceTaken, NothingOwed, NotRoot, NoHub, HubOrder, Connected, NotConnected, NoLease}
use Rattle.rx_event.specs.declared.refusal.Refusal.TheVariants.{NotHeld, Leased, HasChild, TooMany}
use Rattle.rx_event.specs.Events.{is_leaf, is_merging, is_root, is_auto_hub, is_manual_hub}
use Rattle.rx_event.specs.Tree.{is_open_child_of, has_open_child}
use Rattle.rx_event.specs.Moments.{is_projection}
use Rattle.rx_event.specs.Allowed.{may_abort}
use Rattle.rx_event.proofs.Laws.Openness.{ancestors_open}
use Rattle.rx_event.proofs.Laws.SameTree.{alike_back, at_alike, at_hub_alike, parent_alike, ancestors_alike, visits_alike, stops_alike}
use Rattle.rx_event.proofs.Laws.SameForcedAndAllowed.{hubs_alike, hub_is}
use Rattle.rx_event.proofs.Laws.Steps.{named_below}
use Rattle.rx_event.proofs.Laws.Checkpoints.{same_debt}
use Rattle.rx_event.specs.Causes.{has_connection, is_without_hub, forces_connect, connects_up_to, is_out_of_order, is_wrong_place, is_taken_place}
use Rattle.rx_event.specs.Causes.{is_unowed_place, is_crowded, nodes_opened, end_at}
use Rattle.std.proofs.lemmas.Bool.{not-false}

same_first : (p q : Refusal → Bool) → ((why : Refusal) → p why ≡ q why) → first_cause p ≡ first_cause q
same_first p q same = λ i. first_cause (λ why. same why i)

-- what is gone is so whatever else stands
gone_first : (p q : Refusal → Bool) → p NoHub ≡ q NoHub → p Gone ≡ true → q Gone ≡ true → first_cause p ≡ first_cause q
gone_first p q hub gone also = search (rules, cond)

same_test : (x y : Bool) → (x ≡ true → y ≡ true) → (y ≡ true → x ≡ true) → x ≡ y
same_test x y e e2 = grind arith

auto_is : (e : Event) → is_auto_hub e ≡ true → (mode : Mode) × (e ≡ Hub mode)
auto_is x0 is = search (rules, false≢true)

manual_is : (e : Event) → is_manual_hub e ≡ true → (mode : Mode) × (e ≡ Hub mode)
manual_is x0 is = search (rules, false≢true)

same_any : (p q : ℕ → Bool) (ns : List ℕ) → AllByRecursion (λ n. p n ≡ q n) ns → list_any p ns ≡ list_any q ns
same_any p q [] all = refl
same_any p q (n ∷ ns) all = λ i. all.0 i || same_any p q ns all.1 i

each_same : (P : ℕ → Type 0) (p q : ℕ → Bool) → ((n : ℕ) → P n → p n ≡ q n) → (ns : List ℕ) → AllByRecursion P ns → AllByRecursion (λ n. p n ≡ q n) ns
each_same P p q same [] all = tt
each_same P p q same (n ∷ ns) all = (same n all.0, each_same P p q same ns all.1)

module _ (b : Kept) (h : List Event) (c : Kept) (k : List Event) (a : Agree b h c k) (law : IsLawful b h) where
  -- what the rows rest on ------------------------------------------------------------------------

  alike : Alike h k
  alike = alike_of a

  owes_same : (n : ℕ) → is_open h n ≡ true → owed b h n ≡ owed c k n
  owes_same n o = sym (λ i. (a.there.marks n o i).owed)

  on_open : (t : Event → Bool) (n : ℕ) → is_open h n ≡ true → at t h n ≡ at t k n
  on_open t n o = at_alike h k alike t n o

  on_hubs : (t : Event → Bool) → ((e : Event) → t e ≡ true → (mode : Mode) × (e ≡ Hub mode)) → (g : ℕ) → at t h g ≡ at t k g
  on_hubs t is g = search (rules, same_test, at_hub_alike, alike, alike_back)

  abbrev OpenPlace : Place → Type 0
  OpenPlace Root = Unit {0}
  OpenPlace (Source p) = is_open h p ≡ true
  OpenPlace (Inner p) = is_open h p ≡ true
  OpenPlace (Notifier p) = is_open h p ≡ true

  gone_same : (place : Place) → is_gone h place ≡ is_gone k place
  gone_same x0 = search (rules, not)

  open_place : (place : Place) → is_gone h place ≡ false → OpenPlace place
  open_place x0 is = search (rules, not-false)

  wrong_same : (place : Place) → OpenPlace place → is_wrong_place h place ≡ is_wrong_place k place
  wrong_same x0 o = search (rules, not, on_open)

  taken_same : (place : Place) → OpenPlace place → is_taken_place b h place ≡ is_taken_place c k place
  taken_same x0 o = search rules

  unowed_same : (place : Place) → OpenPlace place → is_unowed_place b h place ≡ is_unowed_place c k place
  unowed_same x0 o = search (rules, owes_same)

  connection_same : (g : ℕ) → has_connection h g ≡ has_connection k g
  connection_same g = ap (λ (ns : List ℕ). nat_lt 0 (length ns)) (connections_alike h k alike g)

  without_same : (kind : Kind) → is_without_hub h kind ≡ is_without_hub k kind
  without_same x0 = search (rules, not, on_hubs, hub_is)

  forces_same : (kind : Kind) → forces_connect h kind ≡ forces_connect k kind
  forces_same x0 = search (rules, on_hubs, auto_is, not, connection_same)

  open_total : open_count h ≡ open_count k
  open_total = λ i. count_by (λ n. alike.same_open n i) (range_with_len 0 (a.same_length i))

  crowded_same : (n m : ℕ) → n ≡ m → is_crowded h n ≡ is_crowded k m
  crowded_same n m same = λ i. nat_lt most_nodes (open_total i + same i)

  order_at : (g p : ℕ) → is_open h p ≡ true → list_any (at (connects_up_to g) h) (ancestors h p) ≡ list_any (at (connects_up_to g) k) (ancestors k p)
  order_at g p o = search (rules, same_any, each_same, on_open, ancestors_open, list_any, ancestors_alike, alike)

  order_same : (place : Place) (kind : Kind) → OpenPlace place → is_out_of_order h place kind ≡ is_out_of_order k place kind
  order_same Root (Sub g) o = refl
  order_same (Source p) (Sub g) o = order_at g p o
  order_same (Inner p) (Sub g) o = order_at g p o
  order_same (Notifier p) (Sub g) o = order_at g p o
  order_same place _ o = refl

  child_same : (p n : ℕ) → is_open_child_of h p n ≡ is_open_child_of k p n
  child_same p n = search (rules, option_map_or, parent_alike, alike)

  children_same : (p : ℕ) → has_open_child h p ≡ has_open_child k p
  children_same p = λ i. list_any (λ n. child_same p n i) (range_with_len 0 (a.same_length i))

  debt_same : debt b h ≡ debt c k
  debt_same = same_debt b h c k a

  -- the rows -------------------------------------------------------------------------------------

  module _ (n m : ℕ) (same_end : b.at_length + n ≡ c.at_length + m) where
    over_same : (x y : ℕ) → x ≡ y → is_over b h n x ≡ is_over c k m y
    over_same x y same = λ i. nat_lt (same_end i) (a.same_length i + debt_same i + same i)

    opened_same : (kind : Kind) → nodes_opened h kind ≡ nodes_opened k kind
    opened_same kind = λ i. 1 + cond (forces_same kind i) 1 0

    module _ (fresh : Bool) where
      abbrev Here : Call → Refusal → Bool
      Here call = causes b h n fresh call

      abbrev There : Call → Refusal → Bool
      There call = causes c k m fresh call

      -- the node that a call names is open
      abbrev NamesOpen : Call → Type 0
      NamesOpen (Opening place kind) = OpenPlace place
      NamesOpen (OpeningUsing place tag) = OpenPlace place
      NamesOpen (Holding node tag) = is_open h node ≡ true
      NamesOpen (Emitting leaf v) = is_open h leaf ≡ true
      NamesOpen (Ending leaf t) = is_open h leaf ≡ true
      NamesOpen (Aborting node code) = is_open h node ≡ true
      NamesOpen (Declining f) = is_open h f ≡ true
      NamesOpen (Failing f code) = is_open h f ≡ true
      NamesOpen (Disposing root) = is_open h root ≡ true
      NamesOpen _ = Unit {0}

      -- then each cause stands in both
      same_cause : (call : Call) → NamesOpen call → (why : Refusal) → Here call why ≡ There call why
      same_cause (Opening place kind) o NoHub = without_same kind
      same_cause (Opening place kind) o Gone = gone_same place
      same_cause (Opening place kind) o WrongKind = wrong_same place o
      same_cause (Opening place kind) o PlaceTaken = taken_same place o
      same_cause (Opening place kind) o NothingOwed = unowed_same place o
      same_cause (Opening place kind) o HubOrder = order_same place kind o
      same_cause (Opening place kind) o TooMany = crowded_same (nodes_opened h kind) (nodes_opened k kind) (opened_same kind)
      same_cause (Opening place kind) o Full = over_same (added_by h (Opening place kind)) (added_by k (Opening place kind))
          (λ i. 1 + end_at place + 2 * cond (forces_same kind i) 1 0)
      same_cause (OpeningUsing place tag) o Gone = gone_same place
      same_cause (OpeningUsing place tag) o WrongKind = wrong_same place o
      same_cause (OpeningUsing place tag) o PlaceTaken = taken_same place o
      same_cause (OpeningUsing place tag) o NothingOwed = unowed_same place o
      same_cause (OpeningUsing place tag) o TooMany = crowded_same 1 1 refl
      same_cause (OpeningUsing place tag) o Full = over_same (added_by h (OpeningUsing place tag)) (added_by k (OpeningUsing place tag)) refl
      same_cause (Holding node tag) o Gone = ap not (alike.same_open node)
      same_cause (Holding node tag) o Full = over_same 3 3 refl
      same_cause (Applying r) o NotHeld = ap not (a.held r)
      same_cause (Applying r) o Full = over_same 1 1 refl
      same_cause (Removing r) o NotHeld = ap not (a.held r)
      same_cause (Removing r) o Leased = ap not (a.owned r)
      same_cause (Leasing r) o NotHeld = ap not (a.held r)
      same_cause (Leasing r) o Leased = ap not (a.owned r)
      same_cause (Leasing r) o Full = over_same 2 2 refl
      same_cause (GivingBack l) o NoLease = ap not (a.out l)
      same_cause (Emitting leaf v) o Gone = ap not (alike.same_open leaf)
      same_cause (Emitting leaf v) o WrongKind = ap not (on_open is_leaf leaf o)
      same_cause (Emitting leaf v) o TooMany = ap (λ (x : ℕ). nat_lt most_visits x) (visits_alike h k alike (named_below b h law) leaf o)
      same_cause (Emitting leaf v) o Full = over_same (added_by h (Emitting leaf v)) (added_by k (Emitting leaf v))
          (λ i. 1 + count_by is_projection (stops_alike h k alike (named_below b h law) leaf o i))
      same_cause (Ending leaf t) o Gone = ap not (alike.same_open leaf)
      same_cause (Ending leaf t) o WrongKind = ap not (on_open is_leaf leaf o)
      same_cause (Aborting node code) o Gone = ap not (alike.same_open node)
      same_cause (Aborting node code) o WrongKind = ap not (on_open may_abort node o)
      same_cause (Aborting node code) o HasChild = children_same node
      same_cause (Declining f) o Gone = ap not (alike.same_open f)
      same_cause (Declining f) o WrongKind = ap not (on_open is_merging f o)
      same_cause (Declining f) o NothingOwed = ap (λ (x : ℕ). x == 0) (owes_same f o)
      same_cause (Failing f code) o Gone = ap not (alike.same_open f)
      same_cause (Failing f code) o WrongKind = ap not (on_open is_merging f o)
      same_cause (Failing f code) o NothingOwed = ap (λ (x : ℕ). x == 0) (owes_same f o)
      same_cause (Disposing root) o Gone = ap not (alike.same_open root)
      same_cause (Disposing root) o NotRoot = ap not (on_open is_root root o)
      same_cause (Publishing mode) o TooMany = ap (λ (ns : List ℕ). nat_lt most_hubs (length ns + 1)) (hubs_alike h k alike)
      same_cause (Publishing mode) o Full = over_same 1 1 refl
      same_cause (Connecting g) o NoHub = ap not (on_hubs makes_hub hub_is g)
      same_cause (Connecting g) o WrongKind = ap not (on_hubs is_manual_hub manual_is g)
      same_cause (Connecting g) o Connected = connection_same g
      same_cause (Connecting g) o TooMany = crowded_same 1 1 refl
      same_cause (Connecting g) o Full = over_same 2 2 refl
      same_cause (Disconnecting g) o NoHub = ap not (on_hubs makes_hub hub_is g)
      same_cause (Disconnecting g) o WrongKind = ap not (on_hubs is_manual_hub manual_is g)
      same_cause (Disconnecting g) o NotConnected = ap not (connection_same g)
      same_cause _ o _ = refl

      -- a row of a call at one place or node: what is closed is gone in both
      at_place : (call : Call) (place : Place) → Here call NoHub ≡ There call NoHub → Here call Gone ≡ is_gone h place → There call Gone ≡ is_gone k place
          → (OpenPlace place → NamesOpen call) → first_cause (Here call) ≡ first_cause (There call)
      at_place call place hub gone also names = by_gone (cases_Bool (is_gone h place)) where
        by_gone : (is_gone h place ≡ true) ⊎ (is_gone h place ≡ false) → first_cause (Here call) ≡ first_cause (There call)
        by_gone (inl is) = gone_first (Here call) (There call) hub (gone ∙ is) (also ∙ sym (gone_same place) ∙ is)
        by_gone (inr here) = same_first (Here call) (There call) (same_cause call (names (open_place place here)))

      -- The same cause comes first
      pub same_row : (call : Call) → first_cause (causes b h n fresh call) ≡ first_cause (causes c k m fresh call)
      same_row (Opening place kind) = at_place (Opening place kind) place (without_same kind) refl refl (λ o. o)
      same_row (OpeningUsing place tag) = at_place (OpeningUsing place tag) place refl refl refl (λ o. o)
      same_row (Holding node tag) = at_place (Holding node tag) (Source node) refl refl refl (λ o. o)
      same_row (Emitting leaf v) = at_place (Emitting leaf v) (Source leaf) refl refl refl (λ o. o)
      same_row (Ending leaf t) = at_place (Ending leaf t) (Source leaf) refl refl refl (λ o. o)
      same_row (Aborting node code) = at_place (Aborting node code) (Source node) refl refl refl (λ o. o)
      same_row (Declining f) = at_place (Declining f) (Source f) refl refl refl (λ o. o)
      same_row (Failing f code) = at_place (Failing f code) (Source f) refl refl refl (λ o. o)
      same_row (Disposing root) = at_place (Disposing root) (Source root) refl refl refl (λ o. o)
      same_row call = same_first (Here call) (There call) (same_cause call tt)
