-- Where an item goes by a tree and hubs is where it goes by their history, and what it wants there.
use Rattle.rx_ground.proofs.Common.{◌≡◌, ℕ, ℤ, Bool, cond, count_by, ◌+◌, true, false, nat_lt, List, [], ◌∷◌, length, Option, Some, None, IsSome, sym}
use Rattle.rx_ground.proofs.Common.{is_some, refl, ap, ◌∙◌, arith, not, filter_map, option_map_or, sum_by-cons, Kept, Event}
use Rattle.rx_ground.proofs.Common.{Ghosts, is_leaf, at, is_open, is_projection, told, Emitting, Full, Gone, WrongKind, TooMany, first_cause, is_over, Key}
use Rattle.rx_ground.proofs.Common.{most_visits, Slots, find, Node, Tree, IsSound, Stop, Delivery, Projection, Firing, Connection, numbered, Hub, Hubs, Reach}
use Rattle.rx_ground.proofs.Common.{IsWalk, climb_over, stops_over, all_stops_told, visits_told, found_hub, AreRecords, AreTied, IsReach, IsMeasured, owed_at, told_at, sum_at}
use Rattle.rx_event.specs.declared.refusal.Refusal.{Refusal}
use Rattle.rx_event.specs.Causes.{causes, by_key}
use Rattle.rx_event.specs.Climb.{Stop as NumberedStop, stops, visits}
use Rattle.rx_ground.proofs.Records.{as_records}
use Rattle.std.proofs.Common.{rules}

-- an item may go over a tree and hubs of one history
pub walk_tied : (base : Kept) → {T : Type 0} {g : Ghosts T} {h : List Event} {tree : Tree T} {hubs : Hubs} → AreTied base g h tree hubs → IsSound tree.nodes →
    IsWalk base h tree.nodes hubs.hubs
walk_tied base {h = h} {tree = tree} {hubs = hubs} tied sound = search (rules, as_records, found_hub)

-- what it wants -----------------------------------------------------------------------------------

owed_sum : (ss : List Stop) → sum_at owed_at ss ≡ count_by is_projection (filter_map numbered ss)
owed_sum [] = refl
owed_sum (Delivery key ∷ ss) = search (rules, sum_by-cons, cond, filter_map, owed_sum ss)
owed_sum (Projection key ∷ ss) = search (rules, sum_by-cons, cond, filter_map, owed_sum ss)
owed_sum (Firing key ∷ ss) = search (rules, sum_by-cons, cond, filter_map, owed_sum ss)
owed_sum (Connection key ∷ ss) = let rest = owed_sum ss in omega arith

pub told_sum : (place : ℕ) (value : ℤ) (ss : List Stop) → length (filter_map (told place value) (filter_map numbered ss)) ≡ sum_at told_at ss
told_sum place value [] = refl
told_sum place value (Delivery key ∷ ss) = let rest = told_sum place value ss in omega arith
told_sum place value (Projection key ∷ ss) = let rest = told_sum place value ss in omega arith
told_sum place value (Firing key ∷ ss) = let rest = told_sum place value ss in omega arith
told_sum place value (Connection key ∷ ss) = let rest = told_sum place value ss in omega arith

-- what was counted on its way is what it wants
pub reach_told : {base : Kept} → (h : List Event) (nodes : Slots Node) (hubs : List Hub) (key : Key) → IsWalk base h nodes hubs → IsSome (find nodes key) →
    (reach : Reach) → IsMeasured (stops_over nodes hubs key) reach → IsReach h nodes key reach
reach_told {base} h nodes hubs key walk there reach is = record {
  there = there;
  events = is.events ∙ ap (λ (n : ℕ). 1 + n) (owed_sum (stops_over nodes hubs key)) ∙ ap (λ (ss : List NumberedStop). 1 + count_by is_projection ss) (sym same);
  notes =
      λ value. ap (λ (ss : List NumberedStop). length (filter_map (told (length h) value) ss)) same ∙ told_sum (length h) value (stops_over nodes hubs key) ∙
      sym is.notes;
  few = is.few;
}
  where
    same : stops h key.number ≡ filter_map numbered (stops_over nodes hubs key)
    same = all_stops_told base h nodes hubs key walk there

-- and so are the visits
pub narrow_told : (base : Kept) (h : List Event) (nodes : Slots Node) (hubs : List Hub) (key : Key) (narrow : Bool) → IsWalk base h nodes hubs →
    IsSome (find nodes key) → narrow ≡ not (nat_lt most_visits (length (climb_over nodes hubs key))) →
    narrow ≡ not (nat_lt most_visits (visits h key.number))
narrow_told base h nodes hubs key narrow walk there is =
    is ∙ ap (λ (n : ℕ). not (nat_lt most_visits n)) (sym (visits_told base h nodes hubs key walk there))

-- refusals ----------------------------------------------------------------------------------------

-- what stands first against an item of this key's node
abbrev pub cause_of : Kept → List Event → ℕ → Slots Node → Key → ℤ → Option Refusal
cause_of base h limit nodes key value = first_cause (by_key (is_some (find nodes key)) (causes base h limit true (Emitting key.number value)))

-- of a node whose items are not refused for what it is
abbrev by_limits : Kept → List Event → ℕ → ℕ → Option Refusal
by_limits base h limit n =
    cond (nat_lt most_visits (visits h n)) (Some TooMany) (cond (is_over base h limit (1 + count_by is_projection (stops h n))) (Some Full) None)

-- by the tests in their order
first_cause-emitting : (base : Kept) → (known : Bool) (h : List Event) (limit n : ℕ) (value : ℤ) →
    first_cause (by_key known (causes base h limit true (Emitting n value))) ≡
    cond known (cond (not (is_open h n)) (Some Gone) (cond (not (at is_leaf h n)) (Some WrongKind) (by_limits base h limit n))) (Some Gone)
first_cause-emitting base x1 h limit n value = search rules

test_is : (wide b : Bool) → b ≡ not wide → wide ≡ not b
test_is x0 b e = search (rules, not)

-- at a key that finds this record
module _ (base : Kept) (h : List Event) (limit : ℕ) (nodes : Slots Node) (chain : List Key) (records : AreRecords base h nodes chain) (key : Key) (value : ℤ)
    (node : Node) (found : Some node ≡ find nodes key) where
  row : (b : Bool) → b ≡ is_leaf node.made → cause_of base h limit nodes key value ≡ cond (not b) (Some WrongKind) (by_limits base h limit key.number)
  row b is =
      let record_at = records.each key node (sym found) in
      let known : is_some (find nodes key) ≡ true = ap is_some (sym found) in
      let kind : at is_leaf h key.number ≡ is_leaf node.made = ap (λ (o : Option Event). option_map_or is_leaf o false) record_at.made in
      first_cause-emitting base (is_some (find nodes key)) h limit key.number value ∙ rw (known, record_at.alive, kind, ← is) refl

  pub cause_of-no_leaf : false ≡ is_leaf node.made → cause_of base h limit nodes key value ≡ Some WrongKind
  cause_of-no_leaf other = row false other

  pub cause_of-visits : true ≡ is_leaf node.made → false ≡ not (nat_lt most_visits (visits h key.number)) →
      cause_of base h limit nodes key value ≡ Some TooMany
  cause_of-visits leaf wide = let many = test_is _ false wide in row true leaf ∙ rw many refl

  -- the room decides last
  pub cause_of-room : (reach : Reach) (full : Bool) → true ≡ is_leaf node.made → true ≡ not (nat_lt most_visits (visits h key.number)) →
      IsReach h nodes key reach → full ≡ is_over base h limit reach.events → cause_of base h limit nodes key value ≡ cond full (Some Full) None
  cause_of-room reach full leaf narrow reached room = let few = test_is _ true narrow in row true leaf ∙ rw (few, ← reached.events, ← room) refl
