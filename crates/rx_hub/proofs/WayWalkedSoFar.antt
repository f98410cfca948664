-- How far an item's way was walked.
use Rattle.rx_hub.proofs.Common.{◌≡◌, ℕ, zero, suc, ◌+◌, ◌≤◌, Bool, true, false, Option, Some, None, is_some, IfSome, IsSome, List, [], ◌∷◌, length, refl, ap}
use Rattle.rx_hub.proofs.Common.{◌∙◌, arith, true≢false, not, option_and_then, option_map_or, option_or, most_visits, Key, Slots, find, Node, Stop, way}
use Rattle.rx_hub.proofs.Common.{above_of, stop_of, onward_of, way_within, end_of, stop_made, if_merging, option_map, hub_connected, Event, Open, Connect}
use Rattle.rx_hub.proofs.Common.{Root, Source, Notifier, Connection, Projection}
use Rattle.rx_hub.specs.Way.{hub_of}
use Rattle.std.proofs.Common.{rules}

-- so many nodes were visited from the first on, and of the way what begins at this node is left
pub record IsOnWay (nodes : Slots Node) (first at : Key) (visits : ℕ) : Type 0 where
  pub left : ℕ
  pub sum : visits + left ≡ suc most_visits
  pub visited : length (way nodes first) + 1 ≡ visits + length (way_within (suc left) nodes at)
  pub ends : end_of nodes (way nodes first) ≡ end_of nodes (way_within (suc left) nodes at)

pub at_first : (nodes : Slots Node) (first : Key) → IsOnWay nodes first first 1
at_first nodes first = record { left = most_visits; sum = omega arith; visited = omega arith; ends = refl }

-- where an item does not stop
onward_free : (nodes : Slots Node) (at : Key) → stop_of nodes at ≡ None → onward_of nodes at ≡ above_of nodes at
onward_free nodes at free = rw free refl

onward_stopped : (nodes : Slots Node) (at : Key) (s : Stop) → stop_of nodes at ≡ Some s → onward_of nodes at ≡ None
onward_stopped nodes at s stops = rw stops refl

pub one_further : {nodes : Slots Node} (first at next : Key) (visits : ℕ) → IsOnWay nodes first at visits → visits ≤ most_visits → stop_of nodes at ≡ None →
    above_of nodes at ≡ Some next → IsOnWay nodes first next (visits + 1)
one_further {nodes} first at next visits w few free above = by_left w.left w.sum w.visited w.ends where
  longer : (left : ℕ) → way_within (suc left) nodes at ≡ at ∷ way_within left nodes next
  longer left = ap (λ (o : Option Key). at ∷ option_map_or (way_within left nodes) o []) (onward_free nodes at free ∙ above)

  by_left : (left : ℕ) → visits + left ≡ suc most_visits → length (way nodes first) + 1 ≡ visits + length (way_within (suc left) nodes at) →
      end_of nodes (way nodes first) ≡ end_of nodes (way_within (suc left) nodes at) → IsOnWay nodes first next (visits + 1)
  by_left zero sum visited ends = absurd (omega arith)
  by_left (suc left) sum visited ends = record {
    left = left;
    sum = omega arith;
    visited = let n = visited ∙ ap (λ (ks : List Key). visits + length ks) (longer (suc left)) in omega arith;
    ends = ends ∙ ap (end_of nodes) (longer (suc left)) ∙ ap (λ (s : Option Stop). option_or s (end_of nodes (way_within (suc left) nodes next))) free;
  }

or_none : (s : Option Stop) → option_or s None ≡ s
or_none x0 = search rules

-- where the way ends
last_one : (nodes : Slots Node) (first at : Key) (visits : ℕ) (w : IsOnWay nodes first at visits) → way_within (suc w.left) nodes at ≡ at ∷ [] →
    (visits ≡ length (way nodes first)) × (stop_of nodes at ≡ end_of nodes (way nodes first))
last_one nodes first at visits w last = search (rules, or_none)

ends_here : (nodes : Slots Node) (at : Key) (left : ℕ) → onward_of nodes at ≡ None → way_within (suc left) nodes at ≡ at ∷ []
ends_here nodes at left none = ap (λ (o : Option Key). at ∷ option_map_or (way_within left nodes) o []) none

-- at a stop
pub at_stop : (nodes : Slots Node) (first at : Key) (visits : ℕ) (s : Stop) → IsOnWay nodes first at visits → stop_of nodes at ≡ Some s →
    (visits ≡ length (way nodes first)) × (stop_of nodes at ≡ end_of nodes (way nodes first))
at_stop nodes first at visits s w stops = last_one nodes first at visits w (ends_here nodes at w.left (onward_stopped nodes at s stops))

-- at a node that stands below none
pub at_top : (nodes : Slots Node) (first at : Key) (visits : ℕ) → IsOnWay nodes first at visits → stop_of nodes at ≡ None → above_of nodes at ≡ None →
    (visits ≡ length (way nodes first)) × (stop_of nodes at ≡ end_of nodes (way nodes first))
at_top nodes first at visits w free top = last_one nodes first at visits w (ends_here nodes at w.left (onward_free nodes at free ∙ top))

-- and at the limit
pub at_limit : (nodes : Slots Node) (first at : Key) (visits : ℕ) → IsOnWay nodes first at visits → most_visits + 1 ≤ visits →
    (visits ≡ length (way nodes first)) × (stop_of nodes at ≡ end_of nodes (way nodes first))
at_limit nodes first at visits w many = last_one nodes first at visits w (by_left w.left w.sum) where
  by_onward : (o : Option Key) → at ∷ option_map_or (way_within zero nodes) o [] ≡ at ∷ []
  by_onward None = refl
  by_onward (Some k) = refl

  by_left : (left : ℕ) → visits + left ≡ suc most_visits → way_within (suc left) nodes at ≡ at ∷ []
  by_left zero sum = by_onward (onward_of nodes at)
  by_left (suc left) sum = absurd (omega arith)

-- what a loop's test says ---------------------------------------------------------------------------

pub limit_is : most_visits ≡ 1048576
unfolding most_visits
limit_is = refl

pub free_of : (s : Option Stop) (b : Bool) → is_some s ≡ not b → b ≡ true → s ≡ None
free_of x0 b test none = search (rules, true≢false)

pub stop_there : (s : Option Stop) (b : Bool) → is_some s ≡ not b → b ≡ false → (x : Stop) × (s ≡ Some x)
stop_there x0 b test some = search (rules, true≢false)

-- a climb by the records ----------------------------------------------------------------------------

-- the climb is at a node of this record, where it stops so
pub record IsClimbing (nodes : Slots Node) (first : Key) (read : Node) (stop : Option Stop) (visits : ℕ) : Type 0 where
  pub at : Key
  pub on : IsOnWay nodes first at visits
  pub stops : stop ≡ stop_of nodes at
  pub found : find nodes at ≡ Some read
  pub above : IfSome read.above (λ up. IsSome (find nodes up))

pub climbing_starts : (nodes : Slots Node) (first : Key) {read : Node} {stop : Option Stop} → find nodes first ≡ Some read →
    IfSome read.above (λ up. IsSome (find nodes up)) → stop ≡ stop_of nodes first → IsClimbing nodes first read stop 1
climbing_starts nodes first found above stops = record { at = first; on = at_first nodes first; stops = stops; found = found; above = above }

-- the node above, of a record that is found
above_found : (nodes : Slots Node) (at : Key) (read : Node) (above : Option Key) → find nodes at ≡ Some read → read.above ≡ above → above_of nodes at ≡ above
above_found nodes at read above found is = ap (option_and_then (λ (node : Node). node.above)) found ∙ is

pub climbing_on : {nodes : Slots Node} {first : Key} {read : Node} {stop : Option Stop} {visits : ℕ} → IsClimbing nodes first read stop visits →
    stop ≡ None → visits ≤ most_visits → (next : Key) (after : Node) (onward : Option Stop) → read.above ≡ Some next → find nodes next ≡ Some after →
    IfSome after.above (λ up. IsSome (find nodes up)) → onward ≡ stop_of nodes next → IsClimbing nodes first after onward (visits + 1)
climbing_on {nodes} {first} {read} {stop} {visits} w none few next after onward is found above stops = record {
  at = next;
  on = search (rules, one_further, above_found);
  stops = stops;
  found = found;
  above = above;
}

-- it ends at the top, at a stop, or at the limit
pub climbing_top : {nodes : Slots Node} {first : Key} {read : Node} {stop : Option Stop} {visits : ℕ} → IsClimbing nodes first read stop visits →
    stop ≡ None → read.above ≡ None → (visits ≡ length (way nodes first)) × (stop ≡ end_of nodes (way nodes first))
climbing_top {nodes} {first} {read} {stop} {visits} w none top = search (rules, at_top, above_found)

pub climbing_stop : {nodes : Slots Node} {first : Key} {read : Node} {stop : Option Stop} {visits : ℕ} → IsClimbing nodes first read stop visits →
    (x : Stop) → stop ≡ Some x → (visits ≡ length (way nodes first)) × (stop ≡ end_of nodes (way nodes first))
climbing_stop {nodes} {first} {read} {stop} {visits} w x some = search (rules, at_stop)

pub climbing_limit : {nodes : Slots Node} {first : Key} {read : Node} {stop : Option Stop} {visits : ℕ} → IsClimbing nodes first read stop visits →
    most_visits + 1 ≤ visits → (visits ≡ length (way nodes first)) × (stop ≡ end_of nodes (way nodes first))
climbing_limit {nodes} {first} {read} {stop} {visits} w many = let ends = at_limit nodes first w.at visits w.on many in (ends.0, w.stops ∙ ends.1)

-- the hub of the connection at which it stops
connects_here : (nodes : Slots Node) (at : Key) (above : Option Key) (made : Event) (connection : Key) →
    stop_made nodes at above made ≡ Some (Connection connection) → connection ≡ at
connects_here nodes at above (Connect g) connection is = cc
connects_here nodes at above (Open Root kind) connection is = absurd (cc)
connects_here nodes at above (Open (Source f) kind) connection is = by_key (option_and_then (if_merging nodes) above) is where
  by_key : (o : Option Key) → option_map (λ k. Projection k) o ≡ Some (Connection connection) → connection ≡ at
  by_key None e = absurd (cc)
  by_key (Some k) e = absurd (cc)
connects_here nodes at None (Open (Notifier u) kind) connection is = absurd (cc)
connects_here nodes at (Some up) (Open (Notifier u) kind) connection is = absurd (cc)
connects_here nodes at above _ connection is = absurd (cc)

pub connection_here : {nodes : Slots Node} {first : Key} {read : Node} {stop : Option Stop} {visits : ℕ} → IsClimbing nodes first read stop visits →
    (connection : Key) → stop ≡ Some (Connection connection) → hub_connected read.made ≡ hub_of nodes stop
connection_here {nodes} {read} w connection is =
    let stops : stop_made nodes w.at (above_of nodes w.at) read.made ≡ Some (Connection connection) = search (rules, w.stops, w.found, is) in
    rw (is, connects_here nodes w.at (above_of nodes w.at) read.made connection stops, w.found) refl
