-- Climbs in the subject's own words: a node, and then the climbs of where it goes on, in order.
use Rattle.rx_event.proofs.Laws.Common.{◌≡◌, ℕ, zero, suc, ◌+◌, ◌<◌, ◌≤◌, Bool, true, false, List, [], ◌∷◌, ◌++◌, length, take, Option, Some, None, cond, refl}
use Rattle.rx_event.proofs.Laws.Common.{sym, ap, ◌∙◌, arith, ◌==◌, slice_get, append_assoc, append-nil, length-append, ◌&&◌, AllByRecursion, filter_map, sum_by}
use Rattle.rx_event.proofs.Laws.Common.{range_with_len, option_map_or, and_parts, sum_by-cons, Kept, Event, Connect, is_subscriber_of, at, places, parent}
use Rattle.rx_event.proofs.Laws.Common.{is_within, is_open, Stop, most_visits, climb, stops, IsLawful, ◌*◌, min, cons_option, option_to_list, visits}
use Rattle.std.proofs.Common.{◌↔◌, add-zero, rules}
use Rattle.std.specs.List.{flat_map}
use Rattle.std.proofs.Math.Nat.{add-mul}
use Rattle.std.proofs.lemmas.List.{length-take, take_all}
use Rattle.std.proofs.lemmas.List.Elements.{filter_map-append}
use Rattle.std.proofs.lemmas.List.Sums.{sum_by-append}
use Rattle.rx_event.specs.Climb.{stop_at, onward_from, onward_unless, onward, visited}
use Rattle.rx_event.specs.Claims.Climbs.{nowhere, visit, Visits, times}
use Rattle.rx_event.proofs.Laws.Lists.{AllByRecursion-both, filtered}
use Rattle.rx_event.proofs.Laws.Parents.{parent-lt, within_parent}
use Rattle.rx_event.proofs.Laws.Openness.{is_open_within, parent_open}
use Rattle.rx_event.proofs.Laws.Sums.{sum_by-same, sum_by-plus, sum_by_none, sum_by_one}
use Rattle.rx_event.proofs.Laws.Totals.{is_within_self}
use Rattle.rx_event.proofs.Laws.Projections.{onward_open}
use Rattle.rx_event.proofs.Laws.Hubs.{subscriber_hub, hubs_in_order}

-- whole climbs ------------------------------------------------------------------------------------

-- climbs one after the other
pub Visits-append : {h : List Event} {ns vs ms ws : List ℕ} → Visits h ns vs → Visits h ms ws → Visits h (ns ++ ms) (vs ++ ws)
Visits-append nowhere q = q
Visits-append {h = h} {ms = ms} {ws = ws} (visit {n = n} {others = others} {later = later} {rest = rest} p r) q =
    rw (append_assoc later rest ws) (visit p (Visits-append r q))

-- there is only one way
pub visits_only : {h : List Event} {ns vs ws : List ℕ} → Visits h ns vs → Visits h ns ws → vs ≡ ws
visits_only nowhere nowhere = refl
visits_only (visit {n = n} p r) (visit q s) = λ i. n ∷ visits_only p q i ++ visits_only r s i

-- what is reached from open nodes is open
pub visits_open : (h : List Event) {ns vs : List ℕ} → Visits h ns vs → AllByRecursion (λ m. is_open h m ≡ true) ns → AllByRecursion (λ m. is_open h m ≡ true) vs
visits_open h nowhere open_all = tt
visits_open h (visit {n = n} {later = later} {rest = rest} p r) open_all =
    (open_all.0, AllByRecursion-both (λ m. is_open h m ≡ true) later rest (visits_open h p (onward_open h n open_all.0)) (visits_open h r open_all.1))

-- every climb ends --------------------------------------------------------------------------------

-- the climb from n ends
abbrev Ends : List Event → List ℕ → Type 0
Ends h ns = (vs : List ℕ) × Visits h ns vs

ends_each : (h : List Event) (ns : List ℕ) → AllByRecursion (λ n. Ends h (n ∷ [])) ns → Ends h ns
ends_each h [] each = ([], nowhere)
ends_each h (n ∷ ns) each = let rest = ends_each h ns each.1 in (each.0.0 ++ rest.0, Visits-append each.0.1 rest.1)

-- each connection above n is of one of the last d hubs
abbrev IsLate : List Event → ℕ → ℕ → Type 0
IsLate h d n = (a k : ℕ) → is_within h a n ≡ true → slice_get h a ≡ Some (Connect k) → length h ≤ k + d

-- from the subscribers of those hubs
abbrev EndsFrom : List Event → ℕ → Type 0
EndsFrom h d = (g s : ℕ) → at (is_subscriber_of g) h s ≡ true → is_open h s ≡ true → length h ≤ g + d → Ends h (s ∷ [])

-- up to a connection, and on from its subscribers
ends_below : (h : List Event) (d : ℕ) → EndsFrom h d → (j n : ℕ) → n < j → is_open h n ≡ true → IsLate h d n → Ends h (n ∷ [])
ends_below h d subscribed zero n l o late = absurd (omega arith)
ends_below h d subscribed (suc j) n l o late = whole (ends_each h (onward h n) (by_stop (ends_below h d subscribed j) (stop_at h n))) where
  whole : Ends h (onward h n) → Ends h (n ∷ [])
  whole later = (n ∷ later.0 ++ [], visit later.1 nowhere)

  by_parent : ((p : ℕ) → p < j → is_open h p ≡ true → IsLate h d p → Ends h (p ∷ [])) → (q : Option ℕ) → parent h n ≡ q →
      AllByRecursion (λ m. Ends h (m ∷ [])) (option_to_list q)
  by_parent up None below = tt
  by_parent up (Some p) below = let s : p < n = parent-lt h n p below in (search (rules, parent_open, within_parent))

  by_subscriber : (g : ℕ) → slice_get h n ≡ Some (Connect g) → (s : ℕ) → (at (is_subscriber_of g) h s && is_open h s) ≡ true → Ends h (s ∷ [])
  by_subscriber g connects s both =
      let parts : (at (is_subscriber_of g) h s ≡ true) × (is_open h s ≡ true) = and_parts _ _ both in
      subscribed g s parts.0 parts.1 (late n g (is_within_self h n) connects)

  by_event : ((p : ℕ) → p < j → is_open h p ≡ true → IsLate h d p → Ends h (p ∷ [])) → (e : Option Event) → slice_get h n ≡ e →
      AllByRecursion (λ m. Ends h (m ∷ [])) (option_map_or (onward_from h n) e [])
  by_event up None at_n = tt
  by_event up (Some (Connect g)) at_n = filtered (λ s. at (is_subscriber_of g) h s && is_open h s) (λ s. Ends h (s ∷ [])) (by_subscriber g at_n) (places h)
  by_event up (Some _) at_n = by_parent up (parent h n) refl

  by_stop : ((p : ℕ) → p < j → is_open h p ≡ true → IsLate h d p → Ends h (p ∷ [])) → (s : Option Stop) →
      AllByRecursion (λ m. Ends h (m ∷ [])) (onward_unless s (option_map_or (onward_from h n) (slice_get h n) []))
  by_stop up (Some s) = tt
  by_stop up None = by_event up (slice_get h n) refl

-- the hubs above a subscriber are later than its own, and there are only so many
ends_from : (base : Kept) → (h : List Event) → IsLawful base h → (d : ℕ) → EndsFrom h d
ends_from base h law zero = λ g s subscribes o l. absurd (let w = subscriber_hub base h law g s subscribes in omega arith)
ends_from base h law (suc d) = λ g s subscribes o l. ends_below h d (ends_from base h law d) (suc s) s (omega arith) o
    (λ a k within connects. let m = hubs_in_order law g s a subscribes within connects in omega arith)

-- so the climb from each open node ends
pub visits_end : (base : Kept) → (h : List Event) → IsLawful base h → (n : ℕ) → is_open h n ≡ true → (vs : List ℕ) × Visits h (n ∷ []) vs
visits_end base h law n o = ends_below h (length h) (ends_from base h law (length h)) (suc n) n (omega arith) o (λ a k within connects. omega arith)

-- the climb, as far as the limit ------------------------------------------------------------------

visited_cut_off : (k : ℕ) {h : List Event} {ns vs : List ℕ} → Visits h ns vs → visited k h ns ≡ take k vs
visited_cut_off (suc k) (visit {n = n} p r) = ap (λ (xs : List ℕ). n ∷ xs) (visited_cut_off k (Visits-append p r))
visited_cut_off _ _ = refl

-- it is cut off one visit after the limit
pub climb_cut_off : (h : List Event) (n : ℕ) (vs : List ℕ) → Visits h (n ∷ []) vs → climb h n ≡ take (suc most_visits) vs
unfolding climb
climb_cut_off h n vs v = visited_cut_off (suc most_visits) v

pub climb_whole : (h : List Event) (n : ℕ) (vs : List ℕ) → Visits h (n ∷ []) vs → length vs ≤ most_visits → climb h n ≡ vs
climb_whole h n vs v few = climb_cut_off h n vs v ∙ take_all (suc most_visits) vs (omega arith)

visits_cut_off : (h : List Event) (n : ℕ) (vs : List ℕ) → Visits h (n ∷ []) vs → visits h n ≡ min (suc most_visits) (length vs)
unfolding visits
visits_cut_off h n vs v = ap length (climb_cut_off h n vs v) ∙ length-take (suc most_visits) vs

pub visits_within : (h : List Event) (n : ℕ) (vs : List ℕ) → Visits h (n ∷ []) vs → visits h n ≤ most_visits ↔ length vs ≤ most_visits
visits_within h n vs v = search (rules, visits_cut_off)

-- in order ----------------------------------------------------------------------------------------

climbs_each : {h : List Event} {ns vs : List ℕ} → Visits h ns vs → length vs ≤ most_visits → vs ≡ flat_map (climb h) ns
climbs_each nowhere few = refl
climbs_each {h = h} (visit {n = n} {others = others} {later = later} {rest = rest} p r) few =
    let count : length (n ∷ later ++ rest) ≡ suc (length later) + length rest = omega (arith, length-append later rest) in
    let first : climb h n ≡ n ∷ later =
    climb_whole h n (n ∷ later ++ []) (visit p nowhere) (omega (arith, length-append later [])) ∙ ap (λ (xs : List ℕ). n ∷ xs) (append-nil later) in
    let next : rest ≡ flat_map (climb h) others = climbs_each r (omega arith) in λ i. sym first i ++ next i

-- within the limit the climb is the node, and then the climbs of where it goes on
pub climb_in_order : (base : Kept) → (h : List Event) → IsLawful base h → (n : ℕ) → is_open h n ≡ true → visits h n ≤ most_visits →
    climb h n ≡ n ∷ flat_map (climb h) (onward h n)
climb_in_order base h law n o few = by_visits (visits_end base h law n o) where
  by_parts : {m : ℕ} {vs : List ℕ} → Visits h (m ∷ []) vs → climb h m ≡ vs → length vs ≤ most_visits → climb h m ≡ m ∷ flat_map (climb h) (onward h m)
  by_parts (visit {n = m} {later = later} p nowhere) whole short =
      let later_short : length later ≤ most_visits = omega (arith, length-append later []) in
      whole ∙ ap (λ (xs : List ℕ). m ∷ xs) (append-nil later ∙ climbs_each p later_short)

  by_visits : (vs : List ℕ) × Visits h (n ∷ []) vs → climb h n ≡ n ∷ flat_map (climb h) (onward h n)
  by_visits (vs, v) = let short : length vs ≤ most_visits = (visits_within h n vs v).0 few in by_parts v (climb_whole h n vs v short) short

-- stops -------------------------------------------------------------------------------------------

pub visited_nothing : (k : ℕ) (h : List Event) → visited k h [] ≡ []
visited_nothing k h = grind arith

-- where the climb stops, it visits that node alone
pub stops_stop : (h : List Event) (n : ℕ) (s : Stop) → stop_at h n ≡ Some s → stops h n ≡ s ∷ []
unfolding stops climb
stops_stop h n s stop = search (rules, option_map_or, slice_get, visited_nothing, filter_map)

-- within the limit the stops are those of the whole climb
pub stops_whole : (h : List Event) (n : ℕ) (vs : List ℕ) → Visits h (n ∷ []) vs → length vs ≤ most_visits → stops h n ≡ filter_map (stop_at h) vs
unfolding stops
stops_whole h n vs v few = ap (filter_map (stop_at h)) (climb_whole h n vs v few)

filter_map-flat_map : {X Y Z : Type 0} (f : Y → Option Z) (g : X → List Y) (xs : List X) → filter_map f (flat_map g xs) ≡ flat_map (λ x. filter_map f (g x)) xs
filter_map-flat_map f g [] = refl
filter_map-flat_map f g (x ∷ xs) = filter_map-append f (g x) (flat_map g xs) ∙ ap (λ rest. filter_map f (g x) ++ rest) (filter_map-flat_map f g xs)

-- else its stops are those of where it goes on
pub stops_in_order : (base : Kept) → (h : List Event) → IsLawful base h → (n : ℕ) → is_open h n ≡ true → visits h n ≤ most_visits → stop_at h n ≡ None →
    stops h n ≡ flat_map (stops h) (onward h n)
unfolding stops
stops_in_order base h law n o few passes = ap (filter_map (stop_at h)) (climb_in_order base h law n o few) ∙
    ap (λ t. cons_option t (filter_map (stop_at h) (flat_map (climb h) (onward h n)))) passes ∙ filter_map-flat_map (stop_at h) (climb h) (onward h n)

-- counts ------------------------------------------------------------------------------------------

-- how often visited nodes go on to k
abbrev onward_times : List Event → ℕ → List ℕ → ℕ
onward_times h k vs = sum_by (λ v. times k (onward h v)) vs

-- a node is visited as often as visited nodes go on to it, and as the climbs begin at it
pub visits_each : (h : List Event) (k : ℕ) {ns vs : List ℕ} → Visits h ns vs → times k vs ≡ times k ns + onward_times h k vs
visits_each h k nowhere = refl
visits_each h k (visit {n = n} {others = others} {later = later} {rest = rest} p r) =
    search (rules, sum_by-cons, cond, sum_by-append, visits_each h k p, visits_each h k r)

-- a sum over a list by how often each number is in it
sum_by-by_number : (f : ℕ → ℕ) (n : ℕ) (xs : List ℕ) → AllByRecursion (λ x. x < n) xs → sum_by f xs ≡ sum_by (λ k. times k xs * f k) (range_with_len 0 n)
sum_by-by_number f n [] below = sym (sum_by_none (λ k. times k [] * f k) n (λ k l. omega arith))
sum_by-by_number f n (x ∷ xs) below =
    let rest = sum_by-by_number f n xs below.1 in
    let each : sum_by (λ k. times k (x ∷ xs) * f k) (range_with_len 0 n) ≡ sum_by (λ k. cond (x == k) (f k) 0 + times k xs * f k) (range_with_len 0 n) =
    sum_by-same (λ k. cond (x == k) (f k) 0 + times k xs * f k) (λ k. times k (x ∷ xs) * f k) n
    (λ k l. ap (λ t. t * f k) (sum_by-cons (λ m. cond (m == k) 1 0) x xs) ∙ split_off (x == k) (times k xs) (f k)) in
    let split = sum_by-plus (λ k. cond (x == k) (f k) 0) (λ k. times k xs * f k) n in
    let one = sum_by_one f x n below.0 in
    let first = sum_by-cons f x xs in
    omega arith
  where
    split_off : (b : Bool) (t y : ℕ) → (cond b 1 0 + t) * y ≡ cond b y 0 + t * y
    split_off true t y = add-mul 1 t y ∙ (let z : 1 * y ≡ y = omega arith in ap (λ u. u + t * y) z)
    split_off false t y = add-mul 0 t y ∙ (let z : 0 * y ≡ 0 = omega arith in ap (λ u. u + t * y) z)

all_within : (h : List Event) (vs : List ℕ) → AllByRecursion (λ m. is_open h m ≡ true) vs → AllByRecursion (λ m. m < length h) vs
all_within h [] open_all = tt
all_within h (v ∷ vs) open_all = (is_open_within h v open_all.0, all_within h vs open_all.1)

-- what is reached stands in the history
visits_in : (h : List Event) (n : ℕ) (vs : List ℕ) → is_open h n ≡ true → Visits h (n ∷ []) vs → AllByRecursion (λ m. m < length h) vs
visits_in h n vs o v = all_within h vs (visits_open h v (o, tt))

-- a node is visited as often as the others go on to it, each as often as it is visited
pub visits_by_node : (h : List Event) (n : ℕ) (vs : List ℕ) → is_open h n ≡ true → Visits h (n ∷ []) vs → (k : ℕ) →
    times k vs ≡ cond (n == k) 1 0 + sum_by (λ v. times v vs * times k (onward h v)) (places h)
visits_by_node h n vs o v k =
    let start : times k (n ∷ []) ≡ cond (n == k) 1 0 = sum_by-cons (λ m. cond (m == k) 1 0) n [] ∙ add-zero (cond (n == k) 1 0) in
    visits_each h k v ∙ (λ i. start i + sum_by-by_number (λ u. times k (onward h u)) (length h) vs (visits_in h n vs o v) i)

length-sum_by : (xs : List ℕ) → length xs ≡ sum_by (λ x. 1) xs
length-sum_by [] = refl
length-sum_by (x ∷ xs) = let rest = length-sum_by xs in let first = sum_by-cons (λ (y : ℕ). 1) x xs in omega arith

-- all visits are those of the nodes together
pub visits_all : (h : List Event) (n : ℕ) (vs : List ℕ) → is_open h n ≡ true → Visits h (n ∷ []) vs → length vs ≡ sum_by (λ k. times k vs) (places h)
visits_all h n vs o v = length-sum_by vs ∙ sum_by-by_number (λ x. 1) (length h) vs (visits_in h n vs o v) ∙
    sum_by-same (λ k. times k vs) (λ k. times k vs * 1) (length h) (λ k l. omega arith)
