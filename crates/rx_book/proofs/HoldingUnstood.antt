-- Where nothing stands against an opening that holds a resource, nothing stands against the opening, nor then against the holding.
use Rattle.rx_book.proofs.Common.{◌≡◌, ℕ, ◌+◌, ◌≤◌, Bool, true, false, List, [], ◌∷◌, length, None, cond, refl, ap, ◌∙◌, arith, not, not-false, le-ltb}
use Rattle.rx_book.proofs.Common.{Place, Kind, Event, Refusal, Full, Gone, WrongKind, PlaceTaken, NothingOwed, NoHub, HubOrder, NotFresh, TooMany, Kept, debt}
use Rattle.rx_book.proofs.Common.{is_open, Opening, first_of_these, first_cause, refusal_order, by_key, opening_causes, holding_causes, is_over, added_by, At}
use Rattle.rx_book.proofs.Common.{no_cause, within_limit, State, stands, place_of, is_known_place, open_request, stands_holding}
use Rattle.rx_ground.specs.OpeningHolding.{opening_holding_causes, added_holding}
use Rattle.rx_book.proofs.CausesByKey.{unstood}
use Rattle.std.proofs.Common.{rules}

-- first causes ------------------------------------------------------------------------------------

none_of_these : (stand : Refusal → Bool) (whys : List Refusal) → ((why : Refusal) → stand why ≡ false) → first_of_these stand whys ≡ None
none_of_these stand [] none = refl
none_of_these stand (why ∷ whys) none = search (rules, cond, none_of_these stand whys none)

-- where none stands there is no first
pub no_first_cause : (stand : Refusal → Bool) → ((why : Refusal) → stand why ≡ false) → first_cause stand ≡ None
no_first_cause stand none = none_of_these stand refusal_order none

-- what is within the limit is not over it
pub is_not_over : (base : Kept) → (h : List Event) (limit added : ℕ) → length h + debt base h + added ≤ base.at_length + limit →
    is_over base h limit added ≡ false
is_not_over base h limit added within = le-ltb (base.at_length + limit) (length h + debt base h + added) within

-- the opening -------------------------------------------------------------------------------------

module _ (base : Kept) (h : List Event) (limit : ℕ) (fresh : Bool) (place : Place) (kind : Kind)
    (none : (why : Refusal) → opening_holding_causes base h limit fresh place kind why ≡ false) where
  -- both calls' events are within the limit
  both_within : length h + debt base h + added_holding h place kind ≤ base.at_length + limit
  both_within = let w = within_limit base h limit (added_holding h place kind) (none Full) in omega arith

  opening_unstood : (why : Refusal) → opening_causes base h limit place kind why ≡ false
  opening_unstood NoHub = none NoHub
  opening_unstood Gone = none Gone
  opening_unstood WrongKind = none WrongKind
  opening_unstood PlaceTaken = none PlaceTaken
  opening_unstood NothingOwed = none NothingOwed
  opening_unstood HubOrder = none HubOrder
  opening_unstood TooMany = none TooMany
  opening_unstood Full = is_not_over base h limit (added_by h (Opening place kind)) (let w = both_within in omega arith)
  opening_unstood _ = refl

module _ (s : State) (at : At) (kind : Kind) (fresh : Bool) (none : first_cause (stands_holding s at kind fresh) ≡ None) where
  abbrev stand : Refusal → Bool
  stand = opening_holding_causes s.base s.history s.limit fresh (place_of at) kind

  parts : (is_known_place s.keys at ≡ true) × (first_cause (opening_holding_causes s.base s.history s.limit fresh (place_of at) kind) ≡ None)
  parts = unstood (Opening (place_of at) kind) (is_known_place s.keys at) stand none

  each : (why : Refusal) → opening_holding_causes s.base s.history s.limit fresh (place_of at) kind why ≡ false
  each = no_cause stand parts.1

  -- nothing stands against the opening
  pub opens_unstood : first_cause (stands s (open_request s at kind)) ≡ None
  opens_unstood =
      let opening = opening_causes s.base s.history s.limit (place_of at) kind in
      let first : first_cause (by_key true opening) ≡ None =
      no_first_cause opening (opening_unstood s.base s.history s.limit fresh (place_of at) kind each) in
      ap (λ (b : Bool). first_cause (by_key b opening)) parts.0 ∙ first

  -- the resource is fresh
  pub fresh_with : fresh ≡ true
  fresh_with = not-false fresh (each NotFresh)

  -- and there may be both calls' events
  pub within_with : length s.history + debt s.base s.history + added_holding s.history (place_of at) kind ≤ s.base.at_length + s.limit
  within_with = both_within s.base s.history s.limit fresh (place_of at) kind each

-- the holding -------------------------------------------------------------------------------------

module _ (base : Kept) (h : List Event) (limit : ℕ) (n tag : ℕ) (alive : is_open h n ≡ true)
    (within : length h + debt base h + 3 ≤ base.at_length + limit) where
  holding_each : (why : Refusal) → holding_causes base h limit true n tag why ≡ false
  holding_each x0 = search (rules, not, is_not_over)

  -- nothing stands against holding at an open node, where there may be so many events
  pub holding_unstood : first_cause (holding_causes base h limit true n tag) ≡ None
  holding_unstood = no_first_cause (holding_causes base h limit true n tag) holding_each
