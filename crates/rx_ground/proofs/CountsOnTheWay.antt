-- What is counted of an item on its way.
use Rattle.rx_ground.proofs.Common.{◌≡◌, ℕ, zero, suc, ◌+◌, ◌++◌, ◌<◌, ◌≤◌, true, false, nat_lt, List, [], ◌∷◌, length, Option, Some, None, Bool, IfSome, sym}
use Rattle.rx_ground.proofs.Common.{refl, ap, subst, ◌∙◌, arith, if◌then◌else◌, not, filter_map, cons_option, lt-ltb, le-ltb, false≢true, most_visits, Key}
use Rattle.rx_ground.proofs.Common.{Slots, Node, Reached, Stop, Delivery, Projection, Firing, Connection, Hub, Route, IsUnderWay, Arrives, stops_left, sum_at}
use Rattle.rx_ground.proofs.Common.{all_visits, visited_over, onward_over, climb_over, stops_over, IsArrived, IsMeasured, owed_at, told_at}
use Rattle.rx_hub.specs.Way.{way, end_of}
use Rattle.rx_hub.proofs.Laws.StopInTree.{climb_over-arrived, climb_over-least, stops_over-arrived}
use Rattle.std.proofs.Common.{rules}

-- the limit ---------------------------------------------------------------------------------------

limit_is : most_visits ≡ 1048576
unfolding most_visits
limit_is = refl

pub filtered_few : {X Y : Type 0} (f : X → Option Y) (xs : List X) → length (filter_map f xs) ≤ length xs
filtered_few f [] = omega arith
filtered_few {X = X} {Y = Y} f (x ∷ xs) = by_value (f x) (filtered_few f xs) where
  by_value : (o : Option Y) → length (filter_map f xs) ≤ length xs → length (cons_option o (filter_map f xs)) ≤ suc (length xs)
  by_value None few = omega arith
  by_value (Some y) few = omega arith

visited_few : (left : ℕ) (nodes : Slots Node) (hubs : List Hub) (keys : List Key) → length (visited_over left nodes hubs keys) ≤ left
visited_few zero nodes hubs keys = omega arith
visited_few (suc left) nodes hubs [] = omega arith
visited_few (suc left) nodes hubs (key ∷ keys) = let rest = visited_few left nodes hubs (onward_over nodes hubs key ++ keys) in omega arith

few : (a b c most : ℕ) → a ≤ b → b ≤ suc c → c ≡ most → a ≤ suc most
few a b c most x y z = omega arith

pub stops_few : (nodes : Slots Node) (hubs : List Hub) (key : Key) → length (stops_over nodes hubs key) ≤ 1048577
stops_few nodes hubs key = search (rules, few, length, filtered_few, visited_few, limit_is)

pub visits_past : (n v : ℕ) → n ≡ v → 1048576 < n → false ≡ not (nat_lt most_visits v)
visits_past n v same many = search (rules, limit_is, not, nat_lt, lt-ltb)

pub visits_within : (n v : ℕ) → n ≡ v → n ≤ 1048576 → true ≡ not (nat_lt most_visits v)
visits_within n v same less = search (rules, limit_is, not, nat_lt, le-ltb)

visits_beyond : (n v : ℕ) → n ≤ v → 1048576 < n → false ≡ not (nat_lt most_visits v)
visits_beyond n v least many = search (rules, limit_is, not, nat_lt, lt-ltb)

-- in its own tree ---------------------------------------------------------------------------------

-- a climb that is cut off in its own tree makes more visits than an item may
pub too_far : (nodes : Slots Node) (hubs : List Hub) (key : Key) (n : ℕ) → n ≡ length (way nodes key) → 1048576 < n →
    false ≡ not (nat_lt most_visits (length (climb_over nodes hubs key)))
too_far nodes hubs key n same many = visits_beyond n _ (rw same (climb_over-least nodes hubs key)) many

-- an item that makes one stop wants what that wants
pub measured_alone : (stop : Stop) → IsMeasured (stop ∷ []) (record { events = 1 + owed_at stop; notes = told_at stop })
measured_alone (Delivery key) = record { events = refl; notes = refl; few = omega arith }
measured_alone (Projection key) = record { events = refl; notes = refl; few = omega arith }
measured_alone (Firing key) = record { events = refl; notes = refl; few = omega arith }
measured_alone (Connection key) = record { events = refl; notes = refl; few = omega arith }

-- what an item wants whose climb ends in its own tree
pub record IsAlone (nodes : Slots Node) (hubs : List Hub) (key : Key) (stop : Stop) (owed told : ℕ) : Type 0 where
  pub reach : IsMeasured (stops_over nodes hubs key) (record { events = 1 + owed; notes = told })
  pub only : stops_over nodes hubs key ≡ stop ∷ []
  pub visits : true ≡ not (nat_lt most_visits (length (climb_over nodes hubs key)))

pub arrived_alone : (nodes : Slots Node) (hubs : List Hub) (key : Key) (reached : Reached) (stop : Stop) (owed told : ℕ) → IsArrived reached stop →
    reached.visits ≡ length (way nodes key) → reached.stop ≡ end_of nodes (way nodes key) → owed ≡ owed_at stop → told ≡ told_at stop →
    IsAlone nodes hubs key stop owed told
arrived_alone nodes hubs key reached stop owed told is visits stops owed_is told_is =
    let ends : end_of nodes (way nodes key) ≡ Some stop = sym stops ∙ is.stops in
    let only : stops_over nodes hubs key ≡ stop ∷ [] = stops_over-arrived nodes hubs key stop ends is.arrives in
    record {
      reach = rw only (rw owed_is (rw told_is (measured_alone stop)));
      only = only;
      visits = visits_within reached.visits (length (climb_over nodes hubs key))
          (visits ∙ sym (ap (length {A = Key}) (climb_over-arrived nodes hubs key stop ends is.arrives))) is.few;
    }

-- on its way --------------------------------------------------------------------------------------

-- so much was counted, and the rest is ahead
pub record IsMeasuring (nodes : Slots Node) (hubs : List Hub) (key : Key) (room : ℕ) (route : Route) (events notes : ℕ) (is_first : Bool)
    (only : Option Stop) : Type 0 where
  pub under_way : IsUnderWay nodes hubs route
  pub room_is : route.room ≡ room
  pub visits : all_visits nodes hubs route ≡ length (climb_over nodes hubs key)
  pub owed : events + sum_at owed_at (stops_left nodes hubs route) ≡ 1 + sum_at owed_at (stops_over nodes hubs key)
  pub told : notes + sum_at told_at (stops_left nodes hubs route) ≡ sum_at told_at (stops_over nodes hubs key)
  pub few_events : events + length (stops_left nodes hubs route) ≤ 1048578
  pub few_notes : notes + length (stops_left nodes hubs route) ≤ 1048577
  -- before the first stop all are ahead, and after it all but that
  pub first : is_first ≡ true → stops_over nodes hubs key ≡ stops_left nodes hubs route
  pub one : IfSome only (λ stop. stops_over nodes hubs key ≡ stop ∷ stops_left nodes hubs route)

one_at : (stop : Stop) → (owed_at stop ≤ 1) × (told_at stop ≤ 1)
one_at x0 = search rules

module _ (nodes : Slots Node) (hubs : List Hub) (key : Key) (room : ℕ) where
  pub measuring_starts : (route : Route) → IsUnderWay nodes hubs route → route.room ≡ room → all_visits nodes hubs route ≡ length (climb_over nodes hubs key) →
      stops_left nodes hubs route ≡ stops_over nodes hubs key → IsMeasuring nodes hubs key room route 1 0 true None
  measuring_starts route under_way same visits left =
      let n = ap (length {A = Stop}) left in
      let all = stops_few nodes hubs key in
      record {
        under_way = under_way;
        room_is = same;
        visits = visits;
        owed = ap (λ (ss : List Stop). 1 + sum_at owed_at ss) left;
        told = let t = ap (sum_at told_at) left in omega arith;
        few_events = omega arith;
        few_notes = omega arith;
        first = λ at_first. sym left;
        one = tt;
      }

  -- at a stop more
  pub measuring_on : {old new : Route} {stop : Stop} {events notes : ℕ} (owed told : ℕ) {is_first : Bool} {only : Option Stop} →
      IsMeasuring nodes hubs key room old events notes is_first only →
      Arrives nodes hubs old new (Some stop) → owed ≡ owed_at stop → told ≡ told_at stop → (after : Option Stop) →
      after ≡ (if is_first then Some stop else None) → IsMeasuring nodes hubs key room new (events + owed) (notes + told) false after
  measuring_on {old} {new} {stop} owed told {is_first} was arrives owed_is told_is after after_is =
      let o : sum_at owed_at (stops_left nodes hubs old) ≡ owed_at stop + sum_at owed_at (stops_left nodes hubs new) = ap (sum_at owed_at) arrives.stops in
      let t : sum_at told_at (stops_left nodes hubs old) ≡ told_at stop + sum_at told_at (stops_left nodes hubs new) = ap (sum_at told_at) arrives.stops in
      let n : length (stops_left nodes hubs old) ≡ suc (length (stops_left nodes hubs new)) = ap (length {A = Stop}) arrives.stops in
      let most = one_at stop in
      let w = was.owed in
      let x = was.told in
      let y = was.few_events in
      let z = was.few_notes in
      record {
        under_way = arrives.under_way;
        room_is = arrives.room ∙ was.room_is;
        visits = arrives.visits ∙ was.visits;
        owed = omega arith;
        told = omega arith;
        few_events = let m = most.0 in omega arith;
        few_notes = let m = most.1 in omega arith;
        first = λ no. absurd (false≢true no);
        one = by_first is_first after_is was.first;
      }
    where
      by_first : (b : Bool) → after ≡ (if b then Some stop else None) → (b ≡ true → stops_over nodes hubs key ≡ stops_left nodes hubs old) →
          IfSome after (λ s. stops_over nodes hubs key ≡ s ∷ stops_left nodes hubs new)
      by_first true is all = subst (λ o. IfSome o (λ s. stops_over nodes hubs key ≡ s ∷ stops_left nodes hubs new)) (sym is) (all refl ∙ arrives.stops)
      by_first false is all = subst (λ o. IfSome o (λ s. stops_over nodes hubs key ≡ s ∷ stops_left nodes hubs new)) (sym is) tt

  -- at the end all was counted
  pub measuring_ends : (old new : Route) (events notes : ℕ) (is_first : Bool) (only : Option Stop) →
      IsMeasuring nodes hubs key room old events notes is_first only → Arrives nodes hubs old new None →
      IsMeasured (stops_over nodes hubs key) (record { events = events; notes = notes }) × (new.visits ≡ length (climb_over nodes hubs key)) × (new.room ≡ room)
  measuring_ends old new events notes is_first only was arrives = search (rules, few)

  -- and the stop is the only one that was the first and the last
  pub measuring_only : (old new : Route) (events notes : ℕ) (is_first : Bool) (only : Option Stop) →
      IsMeasuring nodes hubs key room old events notes is_first only → Arrives nodes hubs old new None →
      IfSome only (λ stop. stops_over nodes hubs key ≡ stop ∷ [])
  measuring_only old new events notes is_first only was arrives = search (rules, only)
