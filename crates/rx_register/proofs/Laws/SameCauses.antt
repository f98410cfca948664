-- The same causes stand against a call in two histories that are the same but for their numbers, but for the limit of events.
use Rattle.std.proofs.Common.{◌≡◌, ℕ, ◌+◌, Bool, true, false, List, [], ◌∷◌, length, Option, Some, None}
use Rattle.std.proofs.Common.{cond, slice_get, refl, sym, ap, ◌∙◌, inl, inr, ◌⊎◌, ◌==◌, nat_lt, rules}
use Rattle.std.proofs.Math.Bool.{not, ◌&&◌}
use Rattle.std.proofs.lemmas.List.{length-map}
use Rattle.std.specs.List.{list_any}
use Rattle.std.proofs.lemmas.Bool.{false≢true, both_ways, cases_Bool, eq-eqb, false_from_ne_true, not-true, lt-ltb}
use Rattle.rx_event.specs.Kept.{Kept}
use Rattle.rx_event.specs.declared.refusal.Refusal.{Refusal}
use Rattle.rx_event.specs.Events.{makes_node, makes_hub, makes_resource}
use Rattle.rx_event.specs.Events.{makes_lease}
use Rattle.rx_event.specs.Tree.{at, ancestors, is_open, open_connections}
use Rattle.rx_event.specs.Allowed.{most_nodes, most_hubs}
use Rattle.rx_event.specs.Allowed.{IsInOrderAt}
use Rattle.rx_event.specs.Climb.{most_visits}
use Rattle.rx_event.specs.Refusals.{first_of_these, first_cause}
use Rattle.rx_event.specs.Claims.Seen.{CallersSeeTheSame}
use Rattle.rx_event.specs.declared.event.Place.{Place}
use Rattle.rx_event.specs.declared.event.Kind.{Kind}
use Rattle.rx_event.specs.declared.event.Kind.TheVariants.{Sub}
use Rattle.rx_event.specs.declared.event.Event.{Event}
use Rattle.rx_event.specs.declared.event.Event.TheVariants.{Connect}
use Rattle.rx_event.specs.declared.event.Place.TheVariants.{Root, Source, Inner, Notifier}
use Rattle.rx_event.specs.declared.refusal.Refusal.TheVariants.{Full, Gone, WrongKind, PlaceTaken, NothingOwed, NotRoot, NoHub, HubOrder, Connected}
use Rattle.rx_event.specs.declared.refusal.Refusal.TheVariants.{NotConnected, NoLease, NotHeld, Leased, HasChild, TooMany}
use Rattle.rx_event.specs.Calls.{Opening, OpeningUsing, Holding, Applying, Removing, Leasing, GivingBack, Emitting, Ending, Aborting, Declining, Failing}
use Rattle.rx_event.specs.Calls.{Disposing, Publishing, Connecting, Disconnecting, Taking, Call}
use Rattle.rx_event.specs.Renumbered.{place_by, kind_by, call_by, AreSameBy}
use Rattle.rx_event.proofs.Laws.Searches.{list_any_found, list_any_holds}
use Rattle.rx_event.proofs.Laws.ReadSeen.{callers_see}
use Rattle.rx_event.specs.Causes.{has_connection, is_without_hub, forces_connect, connects_up_to, is_out_of_order, is_gone, is_wrong_place, is_taken_place}
use Rattle.rx_event.specs.Causes.{is_unowed_place, is_crowded, nodes_opened, opening_causes, using_causes, causes, unlimited}
use Rattle.rx_register.proofs.Laws.Follow.{in_order}

-- the numbers that a call names are of what they have to be
abbrev pub NamesPlace : List Event → Place → Type 0
NamesPlace h Root = Unit {0}
NamesPlace h (Source p) = at makes_node h p ≡ true
NamesPlace h (Inner p) = at makes_node h p ≡ true
NamesPlace h (Notifier p) = at makes_node h p ≡ true

abbrev pub NamesKind : List Event → Kind → Type 0
NamesKind h (Sub g) = at makes_hub h g ≡ true
NamesKind h _ = Unit {0}

abbrev pub NamesKnown : List Event → Call → Type 0
NamesKnown h (Opening place kind) = NamesPlace h place × NamesKind h kind
NamesKnown h (OpeningUsing place tag) = NamesPlace h place
NamesKnown h (Holding n tag) = at makes_node h n ≡ true
NamesKnown h (Applying q) = at makes_resource h q ≡ true
NamesKnown h (Removing q) = at makes_resource h q ≡ true
NamesKnown h (Leasing q) = at makes_resource h q ≡ true
NamesKnown h (GivingBack l) = at makes_lease h l ≡ true
NamesKnown h (Emitting l v) = at makes_node h l ≡ true
NamesKnown h (Ending l t) = at makes_node h l ≡ true
NamesKnown h (Aborting n code) = at makes_node h n ≡ true
NamesKnown h (Declining f) = at makes_node h f ≡ true
NamesKnown h (Failing f code) = at makes_node h f ≡ true
NamesKnown h (Disposing n) = at makes_node h n ≡ true
NamesKnown h (Publishing mode) = Unit {0}
NamesKnown h (Connecting g) = at makes_hub h g ≡ true
NamesKnown h (Disconnecting g) = at makes_hub h g ≡ true
NamesKnown h (Taking q) = Unit {0}

same_first : (p q : Refusal → Bool) → ((why : Refusal) → p why ≡ q why) → first_cause p ≡ first_cause q
same_first p q same = λ i. first_cause (λ why. same why i)

-- what is gone is so whatever else stands
gone_first : (p q : Refusal → Bool) → p NoHub ≡ q NoHub → p Gone ≡ true → q Gone ≡ true → first_cause p ≡ first_cause q
gone_first p q hub gone also = search (rules, cond, Option, Some, Bool)

-- order of hubs
up_to : (g : ℕ) (h : List Event) (b : ℕ) → at (connects_up_to g) h b ≡ true → (k : ℕ) × (slice_get h b ≡ Some (Connect k)) × (not (nat_lt g k) ≡ true)
up_to g h b = search (rules, slice_get, Option, ℕ, Some, not, nat_lt, None, false≢true)

none_out : (h : List Event) (g p : ℕ) → IsInOrderAt h g p → list_any (at (connects_up_to g) h) (ancestors h p) ≡ false
none_out h g p ordered = search (rules, false_from_ne_true, list_any_found, up_to, list_any_holds, eq-eqb, both_ways, nat_lt, not-true, lt-ltb)

same_false : (x y : Bool) → (x ≡ false → y ≡ false) → (y ≡ false → x ≡ false) → x ≡ y
same_false x0 x1 p q = search rules

module _ (base : Kept) (r s : ℕ → ℕ) (h c : List Event) (a : AreSameBy base r s h c) where
  seen : CallersSeeTheSame base r s h c
  seen = callers_see base r s h c a

  abbrev OpenPlace : Place → Type 0
  OpenPlace Root = Unit {0}
  OpenPlace (Source p) = is_open h p ≡ true
  OpenPlace (Inner p) = is_open h p ≡ true
  OpenPlace (Notifier p) = is_open h p ≡ true

  gone_same : (place : Place) → NamesPlace h place → is_gone c (place_by r place) ≡ is_gone h place
  gone_same Root known = refl
  gone_same (Source p) known = ap not (seen.same_open p known)
  gone_same (Inner p) known = ap not (seen.same_open p known)
  gone_same (Notifier p) known = ap not (seen.same_open p known)

  not_false : (b : Bool) → not b ≡ false → b ≡ true
  not_false x0 is = search (rules, false≢true)

  open_place : (place : Place) → is_gone h place ≡ false → OpenPlace place
  open_place x0 is = search (rules, not_false)

  wrong_same : (place : Place) → OpenPlace place → is_wrong_place c (place_by r place) ≡ is_wrong_place h place
  wrong_same Root o = refl
  wrong_same (Source p) o = ap not (seen.sourced p o)
  wrong_same (Inner p) o = ap not (seen.merging p o)
  wrong_same (Notifier p) o = ap not (seen.untils p o)

  taken_same : (place : Place) → OpenPlace place → is_taken_place base c (place_by r place) ≡ is_taken_place base h place
  taken_same x0 o = search rules

  unowed_same : (place : Place) → OpenPlace place → is_unowed_place base c (place_by r place) ≡ is_unowed_place base h place
  unowed_same x0 o = search rules

  connection_same : (g : ℕ) → at makes_hub h g ≡ true → has_connection c (r g) ≡ has_connection h g
  connection_same g hub = ap (λ (n : ℕ). nat_lt 0 n) (ap length (seen.connections g hub) ∙ length-map (open_connections h g) r)

  without_same : (kind : Kind) → NamesKind h kind → is_without_hub c (kind_by r kind) ≡ is_without_hub h kind
  without_same (Sub g) hub = ap not (seen.hub_there g hub ∙ sym hub)
  without_same _ known = refl

  forces_same : (kind : Kind) → NamesKind h kind → forces_connect c (kind_by r kind) ≡ forces_connect h kind
  forces_same (Sub g) hub = λ i. seen.autos g hub i && not (connection_same g hub i)
  forces_same _ known = refl

  crowded_same : (n m : ℕ) → n ≡ m → is_crowded c n ≡ is_crowded h m
  crowded_same n m same = λ i. nat_lt most_nodes (seen.open_total i + same i)

  order_at : (g p : ℕ) → at makes_hub h g ≡ true → is_open h p ≡ true →
      ((list_any (at (connects_up_to g) h) (ancestors h p) ≡ false) → IsInOrderAt h g p) →
      ((list_any (at (connects_up_to (r g)) c) (ancestors c (r p)) ≡ false) → IsInOrderAt c (r g) (r p)) →
      list_any (at (connects_up_to (r g)) c) (ancestors c (r p)) ≡ list_any (at (connects_up_to g) h) (ancestors h p)
  order_at g p hub o here there = same_false _ _ (λ none. none_out h g p (seen.ordered_back g p hub o (there none)))
      (λ none. none_out c (r g) (r p) (seen.ordered g p hub o (here none)))

  order_same : (place : Place) (kind : Kind) → NamesKind h kind → OpenPlace place →
      is_out_of_order c (place_by r place) (kind_by r kind) ≡ is_out_of_order h place kind
  order_same Root (Sub g) hub o = refl
  order_same (Source p) (Sub g) hub o = order_at g p hub o (in_order h (Source p) g) (in_order c (Source (r p)) (r g))
  order_same (Inner p) (Sub g) hub o = order_at g p hub o (in_order h (Inner p) g) (in_order c (Inner (r p)) (r g))
  order_same (Notifier p) (Sub g) hub o = order_at g p hub o (in_order h (Notifier p) g) (in_order c (Notifier (r p)) (r g))
  order_same place _ known o = refl

  opening_same : (l m : ℕ) (place : Place) (kind : Kind) → NamesPlace h place → NamesKind h kind →
      first_cause (unlimited (opening_causes base c l (place_by r place) (kind_by r kind))) ≡
      first_cause (unlimited (opening_causes base h m place kind))
  opening_same l m place kind known named = by_gone (cases_Bool (is_gone h place)) where
    by_gone : (is_gone h place ≡ true) ⊎ (is_gone h place ≡ false) →
        first_cause (unlimited (opening_causes base c l (place_by r place) (kind_by r kind))) ≡
        first_cause (unlimited (opening_causes base h m place kind))
    by_gone (inl gone) = gone_first (unlimited (opening_causes base c l (place_by r place) (kind_by r kind)))
        (unlimited (opening_causes base h m place kind)) (without_same kind named) (gone_same place known ∙ gone) gone
    by_gone (inr here) = same_first (unlimited (opening_causes base c l (place_by r place) (kind_by r kind)))
        (unlimited (opening_causes base h m place kind)) by_cause where
          o : OpenPlace place
          o = open_place place here

          by_cause : (why : Refusal) → unlimited (opening_causes base c l (place_by r place) (kind_by r kind)) why ≡
              unlimited (opening_causes base h m place kind) why
          by_cause NoHub = without_same kind named
          by_cause Gone = gone_same place known
          by_cause WrongKind = wrong_same place o
          by_cause PlaceTaken = taken_same place o
          by_cause NothingOwed = unowed_same place o
          by_cause HubOrder = order_same place kind named o
          by_cause TooMany = crowded_same (nodes_opened c (kind_by r kind)) (nodes_opened h kind) (λ i. 1 + cond (forces_same kind named i) 1 0)
          by_cause _ = refl

  using_same : (l m : ℕ) (fresh : Bool) (place : Place) (tag : ℕ) → NamesPlace h place →
      first_cause (unlimited (using_causes base c l fresh (place_by r place) tag)) ≡ first_cause (unlimited (using_causes base h m fresh place tag))
  using_same l m fresh place tag known = by_gone (cases_Bool (is_gone h place)) where
    by_gone : (is_gone h place ≡ true) ⊎ (is_gone h place ≡ false) →
        first_cause (unlimited (using_causes base c l fresh (place_by r place) tag)) ≡ first_cause (unlimited (using_causes base h m fresh place tag))
    by_gone (inl gone) = gone_first (unlimited (using_causes base c l fresh (place_by r place) tag))
        (unlimited (using_causes base h m fresh place tag)) refl (gone_same place known ∙ gone) gone
    by_gone (inr here) = same_first (unlimited (using_causes base c l fresh (place_by r place) tag))
        (unlimited (using_causes base h m fresh place tag)) by_cause where
          o : OpenPlace place
          o = open_place place here

          by_cause : (why : Refusal) → unlimited (using_causes base c l fresh (place_by r place) tag) why ≡
              unlimited (using_causes base h m fresh place tag) why
          by_cause Gone = gone_same place known
          by_cause WrongKind = wrong_same place o
          by_cause PlaceTaken = taken_same place o
          by_cause NothingOwed = unowed_same place o
          by_cause TooMany = crowded_same 1 1 refl
          by_cause _ = refl

  -- what stands against a call at its new numbers, and what against the call as it is
  module _ (l m : ℕ) (fresh : Bool) where
    abbrev Here : Call → Refusal → Bool
    Here call = unlimited (causes base c l fresh (call_by r call))

    abbrev There : Call → Refusal → Bool
    There call = unlimited (causes base h m fresh call)

    -- a call at one node: a closed node is gone in both
    at_node : (n : ℕ) → at makes_node h n ≡ true → (call : Call) → Here call NoHub ≡ There call NoHub → Here call Gone ≡ not (is_open c (r n)) →
        There call Gone ≡ not (is_open h n) →
        (is_open h n ≡ true → (why : Refusal) → Here call why ≡ There call why) → first_cause (Here call) ≡ first_cause (There call)
    at_node n node call no_hub gone gone_too rest = by_open (cases_Bool (is_open h n)) where
      by_open : (is_open h n ≡ true) ⊎ (is_open h n ≡ false) → first_cause (Here call) ≡ first_cause (There call)
      by_open (inl o) = same_first (Here call) (There call) (rest o)
      by_open (inr closed) = gone_first (Here call) (There call) no_hub (gone ∙ ap not (seen.same_open n node ∙ closed)) (gone_too ∙ ap not closed)

    -- The same cause comes first against a call
    pub same_cause : (call : Call) → NamesKnown h call → first_cause (Here call) ≡ first_cause (There call)
    same_cause (Opening place kind) known = opening_same l m place kind known.0 known.1
    same_cause (OpeningUsing place tag) known = using_same l m fresh place tag known
    same_cause (Holding n tag) known = at_node n known (Holding n tag) refl refl refl by_cause where
      by_cause : is_open h n ≡ true → (why : Refusal) → Here (Holding n tag) why ≡ There (Holding n tag) why
      by_cause o Gone = ap not (seen.same_open n known)
      by_cause o _ = refl
    same_cause (Applying q) known = same_first (Here (Applying q)) (There (Applying q)) by_cause where
      by_cause : (why : Refusal) → Here (Applying q) why ≡ There (Applying q) why
      by_cause NotHeld = ap not (seen.held q known)
      by_cause _ = refl
    same_cause (Removing q) known = same_first (Here (Removing q)) (There (Removing q)) by_cause where
      by_cause : (why : Refusal) → Here (Removing q) why ≡ There (Removing q) why
      by_cause NotHeld = ap not (seen.held q known)
      by_cause Leased = ap not (seen.owned q known)
      by_cause _ = refl
    same_cause (Leasing q) known = same_first (Here (Leasing q)) (There (Leasing q)) by_cause where
      by_cause : (why : Refusal) → Here (Leasing q) why ≡ There (Leasing q) why
      by_cause NotHeld = ap not (seen.held q known)
      by_cause Leased = ap not (seen.owned q known)
      by_cause _ = refl
    same_cause (GivingBack lease) known = same_first (Here (GivingBack lease)) (There (GivingBack lease)) by_cause where
      by_cause : (why : Refusal) → Here (GivingBack lease) why ≡ There (GivingBack lease) why
      by_cause NoLease = ap not (seen.out lease known)
      by_cause _ = refl
    same_cause (Emitting leaf v) known = at_node leaf known (Emitting leaf v) refl refl refl by_cause where
      by_cause : is_open h leaf ≡ true → (why : Refusal) → Here (Emitting leaf v) why ≡ There (Emitting leaf v) why
      by_cause o Gone = ap not (seen.same_open leaf known)
      by_cause o WrongKind = ap not (seen.leaves leaf o)
      by_cause o TooMany = ap (λ (n : ℕ). nat_lt most_visits n) (seen.same_visits leaf o)
      by_cause o _ = refl
    same_cause (Ending leaf t) known = at_node leaf known (Ending leaf t) refl refl refl by_cause where
      by_cause : is_open h leaf ≡ true → (why : Refusal) → Here (Ending leaf t) why ≡ There (Ending leaf t) why
      by_cause o Gone = ap not (seen.same_open leaf known)
      by_cause o WrongKind = ap not (seen.leaves leaf o)
      by_cause o _ = refl
    same_cause (Aborting n code) known = at_node n known (Aborting n code) refl refl refl by_cause where
      by_cause : is_open h n ≡ true → (why : Refusal) → Here (Aborting n code) why ≡ There (Aborting n code) why
      by_cause o Gone = ap not (seen.same_open n known)
      by_cause o WrongKind = ap not (seen.aborted n o)
      by_cause o HasChild = seen.children n o
      by_cause o _ = refl
    same_cause (Declining f) known = at_node f known (Declining f) refl refl refl by_cause where
      by_cause : is_open h f ≡ true → (why : Refusal) → Here (Declining f) why ≡ There (Declining f) why
      by_cause o Gone = ap not (seen.same_open f known)
      by_cause o WrongKind = ap not (seen.merging f o)
      by_cause o NothingOwed = ap (λ n. n == 0) (seen.same_owed f o)
      by_cause o _ = refl
    same_cause (Failing f code) known = at_node f known (Failing f code) refl refl refl by_cause where
      by_cause : is_open h f ≡ true → (why : Refusal) → Here (Failing f code) why ≡ There (Failing f code) why
      by_cause o Gone = ap not (seen.same_open f known)
      by_cause o WrongKind = ap not (seen.merging f o)
      by_cause o NothingOwed = ap (λ n. n == 0) (seen.same_owed f o)
      by_cause o _ = refl
    same_cause (Disposing n) known = at_node n known (Disposing n) refl refl refl by_cause where
      by_cause : is_open h n ≡ true → (why : Refusal) → Here (Disposing n) why ≡ There (Disposing n) why
      by_cause o Gone = ap not (seen.same_open n known)
      by_cause o NotRoot = ap not (seen.roots n o)
      by_cause o _ = refl
    same_cause (Publishing mode) known = same_first (Here (Publishing mode)) (There (Publishing mode)) by_cause where
      by_cause : (why : Refusal) → Here (Publishing mode) why ≡ There (Publishing mode) why
      by_cause TooMany = ap (λ (n : ℕ). nat_lt most_hubs (n + 1)) seen.hub_total
      by_cause _ = refl
    same_cause (Connecting g) known = same_first (Here (Connecting g)) (There (Connecting g)) by_cause where
      by_cause : (why : Refusal) → Here (Connecting g) why ≡ There (Connecting g) why
      by_cause NoHub = ap not (seen.hub_there g known ∙ sym known)
      by_cause WrongKind = ap not (seen.manuals g known)
      by_cause Connected = connection_same g known
      by_cause TooMany = crowded_same 1 1 refl
      by_cause _ = refl
    same_cause (Disconnecting g) known = same_first (Here (Disconnecting g)) (There (Disconnecting g)) by_cause where
      by_cause : (why : Refusal) → Here (Disconnecting g) why ≡ There (Disconnecting g) why
      by_cause NoHub = ap not (seen.hub_there g known ∙ sym known)
      by_cause WrongKind = ap not (seen.manuals g known)
      by_cause NotConnected = ap not (connection_same g known)
      by_cause _ = refl
    same_cause (Taking q) known = same_first (Here (Taking q)) (There (Taking q)) (λ why. by_cause why) where
      by_cause : (why : Refusal) → Here (Taking q) why ≡ There (Taking q) why
      by_cause Full = refl
      by_cause _ = refl

-- a call that is not refused for want of room is answered as in a history that is never full
pub never_full : (stands : Refusal → Bool) (whys : List Refusal) → (first_of_these stands whys ≡ Some Full → ⊥) →
    first_of_these (unlimited stands) whys ≡ first_of_these stands whys
never_full stands [] room = refl
never_full stands (Full ∷ whys) room = by_test (stands Full) refl room (never_full stands whys) where
  by_test : (b : Bool) → stands Full ≡ b → (cond {A = Option Refusal} b (Some Full) (first_of_these stands whys) ≡ Some Full → ⊥) →
      ((first_of_these stands whys ≡ Some Full → ⊥) → first_of_these (unlimited stands) whys ≡ first_of_these stands whys) →
      first_of_these (unlimited stands) whys ≡ cond {A = Option Refusal} b (Some Full) (first_of_these stands whys)
  by_test true full room rest = absurd (room refl)
  by_test false free room rest = rest room
never_full stands (why ∷ whys) room = by_test (stands why) room (never_full stands whys) where
  by_test : (b : Bool) → (cond {A = Option Refusal} b (Some why) (first_of_these stands whys) ≡ Some Full → ⊥) →
      ((first_of_these stands whys ≡ Some Full → ⊥) → first_of_these (unlimited stands) whys ≡ first_of_these stands whys) →
      cond {A = Option Refusal} b (Some why) (first_of_these (unlimited stands) whys) ≡ cond {A = Option Refusal} b (Some why)
      (first_of_these stands whys)
  by_test true room rest = refl
  by_test false room rest = rest room
