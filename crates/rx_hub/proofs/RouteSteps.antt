-- One climb further on an item's way.
use Rattle.rx_hub.proofs.Common.{◌≡◌, ℕ, suc, ◌+◌, ◌-◌, ◌<◌, ◌≤◌, ◌++◌, List, [], ◌∷◌, length, Option, Some, None, IsSome, IfSome, IfNone, refl, sym}
use Rattle.rx_hub.proofs.Common.{ap, subst, ◌∙◌, arith, length-append, AllByRecursion, filter_map, cons_option, option_and_then, option_to_list, false≢true}
use Rattle.rx_hub.proofs.Common.{filter_map-append, most_visits, Key, Slots, find, Node, is_on, Stop, way}
use Rattle.rx_hub.proofs.Common.{end_of, Frame, Hub, visited_over, arrival, arrival_at, Route, after_frames, todo, visits_left, stops_left, IsBehind, GoesOn}
use Rattle.rx_hub.proofs.Common.{ReachesFrom, IsOrdered, IsUnderWay, beyond_end, hub_keys, key_is}
use Rattle.std.proofs.Math.Bool.{true}
use Rattle.rx_hub.specs.Way.{hub_of}
use Rattle.rx_hub.specs.Route.{visited_next, all_visits, IsTurn, first_keys, Climbs, Arrives}
use Rattle.rx_hub.proofs.RouteWays.{visited_way, stops_way, visited_cut}
use Rattle.std.proofs.Common.{rules}

pub limit_is : most_visits ≡ 1048576
unfolding most_visits
limit_is = refl

-- what holds of each subscriber holds of one
of_key : (P : Key → Type 0) (keys : List Key) (key : Key) → AllByRecursion P keys → is_on key keys ≡ true → P key
of_key P [] key all on = absurd (false≢true on)
of_key P (k ∷ ks) key all on = search (rules, on, key_is, of_key P ks key all.1)

-- it is under way where it is a subscriber's turn
pub turn_under_way : {nodes : Slots Node} (hubs : List Hub) (route : Route) → IsOrdered nodes hubs → length hubs ≤ route.room → route.visits ≤ suc most_visits →
    (old : List Frame) (first : Option Frame) → GoesOn hubs old route.frames first route.at → IsUnderWay nodes hubs route
turn_under_way {nodes} hubs route ordered room visits old first on = by_at route.at refl on.turn on.ended where
  by_at : (at : Option Key) → route.at ≡ at → IfSome at (IsTurn hubs route.frames) → IfNone at (route.frames ≡ []) → IsUnderWay nodes hubs route
  by_at None is turn ended = record {
    room = room;
    frames = on.frames;
    there = subst (λ (o : Option Key). IfSome o (λ key. IsSome (find nodes key))) (sym is) tt;
    hub = 0;
    reaches = subst (λ (o : Option Key). IfSome o (ReachesFrom nodes 0)) (sym is) tt;
    behind = subst (λ (fs : List Frame). IsBehind 0 fs) (sym ended) tt;
    ended = on.ended;
    visits = visits;
  }
  by_at (Some key) is turn ended =
      let own = turn.frame in
      record {
        room = room;
        frames = on.frames;
        there = subst (λ (o : Option Key). IfSome o (λ k. IsSome (find nodes k))) (sym is)
            (of_key (λ k. IsSome (find nodes k)) own.hub.subscribers key (ordered.found turn.hub own.hub own.there) own.subscribes);
        hub = suc turn.hub;
        reaches = subst (λ (o : Option Key). IfSome o (ReachesFrom nodes (suc turn.hub))) (sym is)
            (of_key (ReachesFrom nodes (suc turn.hub)) own.hub.subscribers key (ordered.later turn.hub own.hub own.there) own.subscribes);
        behind = turn.behind;
        ended = on.ended;
        visits = visits;
      }

less_left : (m v l : ℕ) → m - (v + l) ≡ m - v - l
less_left m v l = omega arith

-- the hub behind a connection ---------------------------------------------------------------------------

-- from a stop it goes on to the subscribers of the hub behind it
pub hub_beyond : (nodes : Slots Node) (hubs : List Hub) (stop : Option Stop) → hub_keys hubs (hub_of nodes stop) ≡ beyond_end nodes hubs stop
hub_beyond nodes hubs x2 = search rules

-- one climb -----------------------------------------------------------------------------------------------

-- what is still to be visited is the way of one climb, and then what is left after it
pub visited_on : (nodes : Slots Node) {hubs : List Hub} (old new : Route) {node : Key} {first : Option Frame} → old.at ≡ Some node →
    old.visits + length (way nodes node) ≤ suc most_visits → new.visits ≡ old.visits + length (way nodes node) →
    first_keys hubs first ≡ beyond_end nodes hubs (end_of nodes (way nodes node)) → GoesOn hubs old.frames new.frames first new.at →
    visited_next nodes hubs old ≡ way nodes node ++ visited_next nodes hubs new
visited_on nodes {hubs} old new {node} at fits visits firsts on =
    let w = way nodes node in
    let rest = after_frames hubs old.frames in
    ap (λ (o : Option Key). visited_over (visits_left old) nodes hubs (option_to_list o ++ rest)) at ∙
    visited_way nodes hubs (suc most_visits) (visits_left old) node rest (omega arith) (omega (arith, fits)) ∙
    (λ i. w ++ visited_over (left i) nodes hubs (keys i)) where
      left : visits_left old - length (way nodes node) ≡ visits_left new
      left = sym (ap (λ v. suc most_visits - v) visits ∙ less_left (suc most_visits) old.visits (length (way nodes node)))

      keys : beyond_end nodes hubs (end_of nodes (way nodes node)) ++ after_frames hubs old.frames ≡ todo hubs new
      keys = ap (λ (ks : List Key). ks ++ after_frames hubs old.frames) (sym firsts) ∙ sym on.todo

-- so it gives the stop of that climb, and then those that come after
pub climbs_on : {nodes : Slots Node} {hubs : List Hub} {old new : Route} {node : Key} {first : Option Frame} → IsOrdered nodes hubs →
    IsUnderWay nodes hubs old → old.at ≡ Some node → old.visits + length (way nodes node) ≤ suc most_visits →
    new.visits ≡ old.visits + length (way nodes node) →
    first_keys hubs first ≡ beyond_end nodes hubs (end_of nodes (way nodes node)) → GoesOn hubs old.frames new.frames first new.at →
    new.room ≡ old.room → Climbs nodes hubs old new (option_and_then arrival (end_of nodes (way nodes node)))
climbs_on {nodes} {hubs} {old} {new} {node} {first} ordered under_way at fits visits firsts on room =
    search (rules, filter_map, filter_map-append, stops_way, length-append, under_way, turn_under_way, room, fits, on, visited_on, firsts, cons_option)

nothing_left : (m : ℕ) → m - m ≡ 0
nothing_left m = omega arith

-- and where too few visits are left, the way is cut off
pub climbs_cut : {nodes : Slots Node} {hubs : List Hub} (old new : Route) (node : Key) → IsUnderWay nodes hubs old → old.at ≡ Some node →
    old.visits ≤ most_visits → suc most_visits < old.visits + length (way nodes node) → new ≡ record old { visits = suc most_visits } →
    Climbs nodes hubs old new None
climbs_cut {nodes} {hubs} old new node under_way at within cut is = subst (λ (r : Route). Climbs nodes hubs old r None) (sym is) (record {
  stops = ap (λ (ks : List Key). filter_map (arrival_at nodes) ks) same ∙ cuts.1 ∙ sym (ap (filter_map (arrival_at nodes)) none);
  visits = let all = ap length same ∙ cuts.0 in let no = ap length none in omega (arith, all, no, within);
  under_way = record {
    room = under_way.room;
    frames = under_way.frames;
    there = under_way.there;
    hub = under_way.hub;
    reaches = under_way.reaches;
    behind = under_way.behind;
    ended = under_way.ended;
    visits = omega arith;
  };
  fewer = omega (arith, within);
  room = refl;
})
  where
    rest : List Key
    rest = after_frames hubs old.frames

    same : visited_next nodes hubs old ≡ visited_over (visits_left old) nodes hubs (node ∷ rest)
    same = ap (λ (o : Option Key). visited_over (visits_left old) nodes hubs (option_to_list o ++ rest)) at

    cuts : (length (visited_over (visits_left old) nodes hubs (node ∷ rest)) ≡ visits_left old) ×
        (filter_map (arrival_at nodes) (visited_over (visits_left old) nodes hubs (node ∷ rest)) ≡ [])
    cuts = visited_cut nodes hubs (suc most_visits) (visits_left old) node rest (omega (arith, cut, within))

    none : visited_over (suc most_visits - suc most_visits) nodes hubs (todo hubs old) ≡ []
    none = ap (λ n. visited_over n nodes hubs (todo hubs old)) (nothing_left (suc most_visits))

-- the same of a way that is seen as another --------------------------------------------------------------

pub cut_seen : {nodes : Slots Node} {hubs : List Hub} {seen old : Route} (node : Key) (visits : ℕ) → seen ≡ old → IsUnderWay nodes hubs old →
    old.at ≡ Some node → old.visits ≤ most_visits → visits ≡ length (way nodes node) → 1048577 - seen.visits < visits →
    Climbs nodes hubs old (record seen { visits = 1048577 }) None
cut_seen {seen} {old} node visits same under_way at within all cut =
    let made = ap (λ (r : Route). r.visits) same in
    climbs_cut old (record seen { visits = 1048577 }) node under_way at within (omega (arith, made, within, all, cut, limit_is))
    (ap (λ (r : Route). record r { visits = 1048577 }) same ∙ ap (λ n. record old { visits = n }) (sym (ap suc limit_is)))

-- a climb from the node visits so many keys; this is the frame of the hub behind its stop, if there is one, and this the stop if it arrives there
pub record HasClimbed (nodes : Slots Node) (hubs : List Hub) (node : Key) (visits : ℕ) (first : Option Frame) (arrived : Option Stop) : Type 0 where
  pub visited : visits ≡ length (way nodes node)
  pub firsts : first_keys hubs first ≡ beyond_end nodes hubs (end_of nodes (way nodes node))
  pub arrives : arrived ≡ option_and_then arrival (end_of nodes (way nodes node))

-- the way has so many visits more, and goes on from this frame
pub record GoesFurther (hubs : List Hub) (seen new : Route) (visits : ℕ) (first : Option Frame) : Type 0 where
  pub fits : visits ≤ 1048577 - seen.visits
  pub sum : new.visits ≡ seen.visits + visits
  pub on : GoesOn hubs seen.frames new.frames first new.at
  pub room : new.room ≡ seen.room

pub climbs_seen : {nodes : Slots Node} {hubs : List Hub} {seen old new : Route} {node : Key} {visits : ℕ} {first : Option Frame} {arrived : Option Stop} →
    seen ≡ old → IsOrdered nodes hubs → IsUnderWay nodes hubs old → old.at ≡ Some node → old.visits ≤ most_visits →
    HasClimbed nodes hubs node visits first arrived → GoesFurther hubs seen new visits first → Climbs nodes hubs old new arrived
climbs_seen {nodes} {hubs} {old} {new} {first} same ordered under_way at within climbed further =
    let made = ap (λ (r : Route). r.visits) same in
    let all = climbed.visited in
    let fits = further.fits in
    let sum = further.sum in
    subst (λ (s : Option Stop). Climbs nodes hubs old new s) (sym climbed.arrives)
    (climbs_on ordered under_way at (omega (arith, made, within, all, fits, limit_is)) (omega (arith, made, all, sum)) climbed.firsts
    (subst (λ (r : Route). GoesOn hubs r.frames new.frames first new.at) same further.on) (further.room ∙ ap (λ (r : Route). r.room) same))

-- climb after climb, up to a stop ------------------------------------------------------------------------

-- it came here from there without a stop
pub record IsFurther (nodes : Slots Node) (hubs : List Hub) (first now : Route) : Type 0 where
  pub stops : stops_left nodes hubs first ≡ stops_left nodes hubs now
  pub visits : all_visits nodes hubs now ≡ all_visits nodes hubs first
  pub under_way : IsUnderWay nodes hubs now
  pub room : now.room ≡ first.room

none_visited : (left : ℕ) (nodes : Slots Node) (hubs : List Hub) → visited_over left nodes hubs [] ≡ []
none_visited x0 nodes hubs = search rules

-- where nothing is left to visit, it has arrived everywhere
ends_on : (nodes : Slots Node) (hubs : List Hub) (first now : Route) → IsFurther nodes hubs first now → visited_next nodes hubs now ≡ [] →
    Arrives nodes hubs first now None
ends_on nodes hubs first now further none = record {
  stops = further.stops;
  ended = ap (filter_map (arrival_at nodes)) none;
  visits = further.visits;
  counted = let no = ap length none in let all = further.visits in omega (arith, no, all);
  under_way = further.under_way;
  room = further.room;
}

pub ends_cut : (nodes : Slots Node) (hubs : List Hub) (first now : Route) → IsFurther nodes hubs first now → 1048576 < now.visits →
    Arrives nodes hubs first now None
ends_cut nodes hubs first now further cut = search (rules, ends_on, limit_is)
