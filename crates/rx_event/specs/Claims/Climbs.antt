-- What is promised of climbs.
use Rattle.std.specs.Prelude.{◌≡◌, ◌↔◌, ◌+◌, ◌*◌, ◌<◌, ◌≤◌, ◌==◌, if◌then◌else◌, ◌∷◌, ◌++◌}
use Rattle.rx_event.specs.Claims.Imports.{ℕ, suc, Some, None, List, [], length, slice_get, take}
use Rattle.rx_event.specs.Claims.Imports.{count_by, sum_by, IsTrue, AllByRecursion, filter_map, flat_map, Event, Connect, Kept, is_root, is_merging, is_until}
use Rattle.rx_event.specs.Claims.Imports.{is_subscriber_of, at, places, is_within, is_open, Stop, Delivery, Projection, Firing, stop_at, onward, most_visits}
use Rattle.rx_event.specs.Claims.Imports.{climb, stops, visits, IsLawful}

-- the whole climbs from these nodes, one after the other: a node, then the climbs of where it goes on, in order, and then those
-- of the others
pub data Visits (h : List Event) : List ℕ → List ℕ → Type 0 where
  nowhere : Visits h [] []
  visit : {n : ℕ} {others later rest : List ℕ} → Visits h (onward h n) later → Visits h others rest →
      Visits h (n ∷ others) (n ∷ later ++ rest)

-- the stop is at an open node: a root that is told the item, a FlatMap or Switch that projects it, a TakeUntil that it fires
abbrev pub StopsAtOpen : List Event → Stop → Type 0
StopsAtOpen h (Delivery n) = IsTrue (is_open h n) × IsTrue (at is_root h n)
StopsAtOpen h (Projection f) = IsTrue (is_open h f) × IsTrue (at is_merging h f)
StopsAtOpen h (Firing u) = IsTrue (is_open h u) × IsTrue (at is_until h u)

-- every climb ends, and what it reaches is open
pub record ClimbsEnd (base : Kept) : Type 0 where
  pub ends : (h : List Event) → IsLawful base h → (n : ℕ) → IsTrue (is_open h n) → (vs : List ℕ) × Visits h (n ∷ []) vs
  -- these visits alone
  pub only : (h : List Event) (ns vs ws : List ℕ) → Visits h ns vs → Visits h ns ws → vs ≡ ws
  pub opened : (h : List Event) (n : ℕ) (vs : List ℕ) → IsTrue (is_open h n) → Visits h (n ∷ []) vs →
      AllByRecursion (λ m. IsTrue (is_open h m)) vs
  pub stopped : (h : List Event) → IsLawful base h → (n : ℕ) → IsTrue (is_open h n) →
      AllByRecursion (StopsAtOpen h) (stops h n)
  -- every connection above a subscriber is of a later hub than its own, so that no item goes round in a circle
  pub later : {h : List Event} → IsLawful base h → (g s a : ℕ) {k : ℕ} → IsTrue (at (is_subscriber_of g) h s) →
      IsTrue (is_within h a s) → slice_get h a ≡ Some (Connect k) → g < k

-- the climb is the whole climb, as far as the limit lets it
pub record ClimbsWhole (base : Kept) : Type 0 where
  -- cut off one after the limit
  pub cut_off : (h : List Event) (n : ℕ) (vs : List ℕ) → Visits h (n ∷ []) vs → climb h n ≡ take (suc most_visits) vs
  pub within : (h : List Event) (n : ℕ) (vs : List ℕ) → Visits h (n ∷ []) vs →
      visits h n ≤ most_visits ↔ length vs ≤ most_visits
  pub whole : (h : List Event) (n : ℕ) (vs : List ℕ) → Visits h (n ∷ []) vs → length vs ≤ most_visits → climb h n ≡ vs
  pub all_stops : (h : List Event) (n : ℕ) (vs : List ℕ) → Visits h (n ∷ []) vs → length vs ≤ most_visits →
      stops h n ≡ filter_map (stop_at h) vs
  -- within the limit: the node, and then the climbs of where it goes on, in order
  pub in_order : (h : List Event) → IsLawful base h → (n : ℕ) → IsTrue (is_open h n) → visits h n ≤ most_visits →
      climb h n ≡ n ∷ flat_map (climb h) (onward h n)
  -- and the stops of where it goes on, in order, where it does not stop
  pub stop : (h : List Event) (n : ℕ) (s : Stop) → stop_at h n ≡ Some s → stops h n ≡ s ∷ []
  pub stops_in_order : (h : List Event) → IsLawful base h → (n : ℕ) → IsTrue (is_open h n) → visits h n ≤ most_visits →
      stop_at h n ≡ None → stops h n ≡ flat_map (stops h) (onward h n)

-- how often a number is in the list
abbrev pub times : ℕ → List ℕ → ℕ
times k ns = count_by (λ m. m == k) ns

-- how often a node is visited
pub record VisitsCounted : Type 0 where
  -- as often as the climbs begin at it, and visited nodes go on to it
  pub each : (h : List Event) (ns vs : List ℕ) → Visits h ns vs → (k : ℕ) →
      times k vs ≡ times k ns + sum_by (λ v. times k (onward h v)) vs
  -- so for one climb: once where it begins, and as often as the others go on to it, each as often as it is visited
  pub by_node : (h : List Event) (n : ℕ) (vs : List ℕ) → IsTrue (is_open h n) → Visits h (n ∷ []) vs → (k : ℕ) →
      times k vs ≡ (if n == k then 1 else 0) + sum_by (λ v. times v vs * times k (onward h v)) (places h)
  -- and all visits are those of the nodes together
  pub all : (h : List Event) (n : ℕ) (vs : List ℕ) → IsTrue (is_open h n) → Visits h (n ∷ []) vs →
      length vs ≡ sum_by (λ k. times k vs) (places h)
