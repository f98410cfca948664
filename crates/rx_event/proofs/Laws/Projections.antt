-- Projected items: where they go, and what each FlatMap and Switch owes after one more event.
use Rattle.rx_event.proofs.Laws.Common.{take, ◌≡◌, ℕ, zero, suc, ◌+◌, ◌-◌, ◌<◌, ◌≤◌, Bool, true, false, List, [], ◌∷◌, ◌++◌, length, Option, Some, None, cond}
use Rattle.rx_event.proofs.Laws.Common.{refl, sym, ap, ◌∙◌, arith, ◌==◌, slice_get, length-append, ◌&&◌, AllByRecursion, sum_by, count_by, filter_map}
use Rattle.rx_event.proofs.Laws.Common.{option_and_then, option_map_or, cases_Bool, both_ways, false≢true, and_parts, eqb-true, sum_by_push, sum_by-cons}
use Rattle.rx_event.proofs.Laws.Common.{slice_get_past, slice_get_within, Kept, shown, Root, Source, Notifier, Kind, Event, Open, Connect, is_merging, is_until}
use Rattle.rx_event.proofs.Laws.Common.{pays, at, places, parent, is_open, Stop, Projection, climb, stops, most_visits, moments, projections}
use Rattle.rx_event.proofs.Laws.Common.{owed, is_projection_to, stops_of, MayFollow, IsLawful, StopsAtOpen, zero_or_zero, option_to_list}
use Rattle.rx_event.specs.declared.base.BaseNode.{BaseNode}
use Rattle.rx_event.specs.Climb.{stop_made, stop_at, onward_from, onward, onward_unless, visited}
use Rattle.rx_event.specs.Moments.{projected_by, is_projection}
use Rattle.rx_event.proofs.Laws.Openness.{is_open_within, parent_open}
use Rattle.rx_event.proofs.Laws.Places.{at-take}
use Rattle.rx_event.proofs.Laws.Lawful.{in_base, since_base, FoundAt, found_at, shown_within}
use Rattle.rx_event.proofs.Laws.Lists.{AllByRecursion-both, filtered}
use Rattle.rx_event.proofs.Laws.Counts.{projections-push}
use Rattle.rx_event.proofs.Laws.Steps.{by_pushes, by_events, may_open, may_decline, named_below, parent-named}
use Rattle.rx_event.proofs.Laws.Sums.{sum_by-same, sum_by-plus, sum_by_none, count_by_one}
use Rattle.std.proofs.Common.{rules}

-- who is projected to ------------------------------------------------------------------------------

count_by-filter_map_none : {X Y : Type 0} (p : Y → Bool) (s : X → Option Y) → ((x : X) → option_map_or p (s x) false ≡ false) → (xs : List X) →
    count_by p (filter_map s xs) ≡ 0
count_by-filter_map_none p s never [] = refl
count_by-filter_map_none {Y = Y} p s never (x ∷ xs) = search (rules, option_map_or, count_by, filter_map, sum_by-cons, cond, count_by-filter_map_none p s never xs)

-- an event projects nothing to what is no FlatMap or Switch
pub projects_none : (h : List Event) (e : Event) (f : ℕ) → at is_merging h f ≡ false → count_by (is_projection_to f) (stops_of h e) ≡ 0
unfolding stops
projects_none h x1 f plain = search (rules, count_by-filter_map_none, cases_Bool, both_ways, eqb-true)

-- nothing was projected beyond the end
pub projections_past : (h : List Event) (f : ℕ) → length h ≤ f → projections h f ≡ 0
unfolding projections moments
projections_past = by_pushes (λ h. (f : ℕ) → length h ≤ f → projections h f ≡ 0) (λ f l. refl) (λ h e before f l.
    let b : length h ≤ f = omega (arith, length-append h (e ∷ [])) in
    projections-push h e f ∙ rw (before f b, projects_none h e f (rw (slice_get_past h f b) refl)) refl)

-- owed --------------------------------------------------------------------------------------------

-- a new node owes nothing
pub owed_new : (base : Kept) → (h : List Event) → IsLawful base h → (e : Event) → owed base (h ++ e ∷ []) (length h) ≡ 0
unfolding owed
owed_new base h law e =
    let p = projections_past h (length h) (omega arith) in
    let q = projects_none h e (length h) (rw (slice_get_past h (length h) (omega arith)) refl) in
    let r = projections-push h e (length h) in
    let shows = projections (h ++ e ∷ []) (length h) in
    let paid = count_by (pays (length h)) in
    ap (λ k. option_map_or (λ (x : BaseNode). x.owed + paid (shown base) + shows) k shows - paid (h ++ e ∷ []))
    (law.started.unkept (length h) (shown_within base h law)) ∙ omega arith

pays_owed : (base : Kept) → (h : List Event) (e : Event) → MayFollow base h e → (f : ℕ) → pays f e ≡ true → 0 < owed base h f
pays_owed base h x2 next f same = search (rules, eqb-true, may_open, may_decline, false≢true)

projected-push : (base : Kept) → (h : List Event) (e : Event) (f : ℕ) →
    projected_by base (h ++ e ∷ []) f ≡ projected_by base h f + count_by (is_projection_to f) (stops_of h e)
projected-push base h e f = search (rules, option_map_or, count_by, projections-push)

-- no more was paid than was projected
pub paid-le : (base : Kept) → (h : List Event) → IsLawful base h → (f : ℕ) → count_by (pays f) h ≤ projected_by base h f
unfolding owed
paid-le base = by_events base (λ h. (f : ℕ) → count_by (pays f) h ≤ projected_by base h f) (λ s f. s.paid f)
    (λ h e law next before f. by_payment h e f (pays f e) (before f) (projected-push base h e f) (sum_by_push (λ (x : Event). cond (pays f x) 1 0) h e)
    (pays_owed base h e next f))
  where
    by_payment : (h : List Event) (e : Event) (f : ℕ) (b : Bool) → count_by (pays f) h ≤ projected_by base h f →
        projected_by base (h ++ e ∷ []) f ≡ projected_by base h f + count_by (is_projection_to f) (stops_of h e) →
        count_by (pays f) (h ++ e ∷ []) ≡ count_by (pays f) h + cond b 1 0 → (b ≡ true → 0 < projected_by base h f - count_by (pays f) h) →
        count_by (pays f) (h ++ e ∷ []) ≤ projected_by base (h ++ e ∷ []) f
    by_payment h e f true before more one some = let k = some refl in omega arith
    by_payment h e f false before more one some = omega arith

-- what f owes after the event, and what it pays by it, it owed before, or was projected to it
pub owed-push : (base : Kept) → (h : List Event) (e : Event) → IsLawful base h → MayFollow base h e → (f : ℕ) →
    owed base (h ++ e ∷ []) f + cond (pays f e) 1 0 ≡ owed base h f + count_by (is_projection_to f) (stops_of h e)
unfolding owed
owed-push base h e law next f = search (rules, paid-le, projected-push, sum_by_push, cond, pays_owed, count_by)

-- an event that neither projects nor pays
pub owed_kept : (base : Kept) → (h : List Event) (e : Event) (f : ℕ) → stops_of h e ≡ [] → pays f e ≡ false → owed base (h ++ e ∷ []) f ≡ owed base h f
unfolding owed
owed_kept base h e f no_stops pays_none = search (rules, projected-push, count_by, sum_by_push, cond)

notified : (base : Kept) → (h : List Event) → IsLawful base h → (n u : ℕ) (kind : Kind) → slice_get h n ≡ Some (Open (Notifier u) kind) →
    at is_until (take n h) u ≡ true
notified base h law n u kind at_n = by_case (found_at base h law n (Open (Notifier u) kind) at_n) where
  by_case : FoundAt base h n (Open (Notifier u) kind) → at is_until (take n h) u ≡ true
  by_case (in_base found same) = ap (λ k. at is_until k u) same ∙ law.started.placed n (Notifier u) kind found
  by_case (since_base next) = (may_open base next).1

-- projections of one item ---------------------------------------------------------------------------

-- from an open node the climb goes on to open nodes
pub onward_open : (h : List Event) (n : ℕ) → is_open h n ≡ true → AllByRecursion (λ m. is_open h m ≡ true) (onward h n)
onward_open h n o = by_stop (stop_at h n) where
  by_parent : (p : Option ℕ) → parent h n ≡ p → AllByRecursion (λ m. is_open h m ≡ true) (option_to_list p)
  by_parent None below = tt
  by_parent (Some p) below = (parent_open h n p o below, tt)

  by_event : (e : Option Event) → AllByRecursion (λ m. is_open h m ≡ true) (option_map_or (onward_from h n) e [])
  by_event None = tt
  by_event (Some (Connect g)) = filtered _ (λ m. is_open h m ≡ true) (λ m both. (and_parts _ _ both).1) (places h)
  by_event (Some _) = by_parent (parent h n) refl

  by_stop : (s : Option Stop) → AllByRecursion (λ m. is_open h m ≡ true) (onward_unless s (option_map_or (onward_from h n) (slice_get h n) []))
  by_stop (Some s) = tt
  by_stop None = by_event (slice_get h n)

visited_open : (k : ℕ) (h : List Event) (todo : List ℕ) → AllByRecursion (λ m. is_open h m ≡ true) todo →
    AllByRecursion (λ m. is_open h m ≡ true) (visited k h todo)
visited_open zero h todo open_all = tt
visited_open (suc k) h [] open_all = tt
visited_open (suc k) h (n ∷ todo) open_all = (open_all.0, visited_open k h (onward h n ++ todo) (search (rules, AllByRecursion-both, onward_open)))

-- what an open leaf's item reaches is open
pub climb_open : (h : List Event) (l : ℕ) → is_open h l ≡ true → AllByRecursion (λ m. is_open h m ≡ true) (climb h l)
unfolding climb
climb_open h l o = visited_open (suc most_visits) h (l ∷ []) (o, tt)

abbrev StopsWell : List Event → Option Stop → Type 0
StopsWell h None = Unit {0}
StopsWell h (Some s) = StopsAtOpen h s

-- the climb stops at an open root, FlatMap, Switch or TakeUntil
stop_open : (base : Kept) → (h : List Event) → IsLawful base h → (n : ℕ) → is_open h n ≡ true → StopsWell h (stop_at h n)
stop_open base h law n o = by_event (slice_get h n) refl where
  if_merging : (f : ℕ) (kind : Kind) → slice_get h n ≡ Some (Open (Source f) kind) → (b : Bool) → at is_merging h f ≡ b →
      StopsWell h (cond b (Some (Projection f)) None)
  if_merging f kind at_n false m = tt
  if_merging f kind at_n true m = (parent_open h n f o (parent-named base h law n f (Open (Source f) kind) at_n refl), m)

  until : (u : ℕ) (kind : Kind) → slice_get h n ≡ Some (Open (Notifier u) kind) → at is_until h u ≡ true
  until u kind at_n =
      let l : u < n = named_below base h law n u (Open (Notifier u) kind) at_n refl in
      sym (at-take is_until h n u l (slice_get_within h n (Open (Notifier u) kind) at_n)) ∙ notified base h law n u kind at_n

  by_event : (e : Option Event) → slice_get h n ≡ e → StopsWell h (option_and_then (stop_made h n) e)
  by_event None at_n = tt
  by_event (Some (Open Root kind)) at_n = (o, rw at_n refl)
  by_event (Some (Open (Source f) kind)) at_n = if_merging f kind at_n (at is_merging h f) refl
  by_event (Some (Open (Notifier u) kind)) at_n = (parent_open h n u o (parent-named base h law n u (Open (Notifier u) kind) at_n refl), until u kind at_n)
  by_event (Some _) at_n = tt

stops_well : (base : Kept) → (h : List Event) → IsLawful base h → (ns : List ℕ) → AllByRecursion (λ m. is_open h m ≡ true) ns →
    AllByRecursion (StopsAtOpen h) (filter_map (stop_at h) ns)
stops_well base h law [] open_all = tt
stops_well base h law (n ∷ ns) open_all = by_stop (stop_at h n) (stop_open base h law n open_all.0) (stops_well base h law ns open_all.1) where
  by_stop : (s : Option Stop) → StopsWell h s → AllByRecursion (StopsAtOpen h) (filter_map (stop_at h) ns) →
      AllByRecursion (StopsAtOpen h) (Rattle.std.specs.List.cons_option s (filter_map (stop_at h) ns))
  by_stop None well rest = rest
  by_stop (Some s) well rest = (well, rest)

-- so does the item of an open leaf
pub stops_open : (base : Kept) → (h : List Event) (l : ℕ) → IsLawful base h → is_open h l ≡ true → AllByRecursion (StopsAtOpen h) (stops h l)
unfolding stops
stops_open base h l law o = stops_well base h law (climb h l) (climb_open h l o)

-- what stops project to n, where it is an open FlatMap or Switch
abbrev pub projected_open : List Event → List Stop → ℕ → ℕ
projected_open h ss n = cond (is_open h n && at is_merging h n) (count_by (is_projection_to n) ss) 0

-- so all projections are to open FlatMaps and Switches
pub projected_count : (h : List Event) (ss : List Stop) → AllByRecursion (StopsAtOpen h) ss →
    sum_by (projected_open h ss) (places h) ≡ count_by is_projection ss
projected_count h [] well = search (rules, sum_by_none, length, zero_or_zero)
projected_count h (s ∷ ss) well =
    let each : sum_by (projected_open h (s ∷ ss)) (places h) ≡
    sum_by (λ n. cond (is_open h n && at is_merging h n) (cond (is_projection_to n s) 1 0) 0 + projected_open h ss n) (places h) =
    sum_by-same (λ n. cond (is_open h n && at is_merging h n) (cond (is_projection_to n s) 1 0) 0 + projected_open h ss n) (projected_open h (s ∷ ss))
    (length h) (λ n l. shape (is_open h n && at is_merging h n) _ _ _ (sum_by-cons (λ t. cond (is_projection_to n t) 1 0) s ss)) in
    let split = sum_by-plus (λ n. cond (is_open h n && at is_merging h n) (cond (is_projection_to n s) 1 0) 0) (projected_open h ss) (length h) in
    let rest = projected_count h ss well.1 in
    let first = by_stop s well.0 in
    let whole = sum_by-cons (λ t. cond (is_projection t) 1 0) s ss in
    omega arith
  where
    shape : (b : Bool) (x y z : ℕ) → x ≡ y + z → cond b x 0 ≡ cond b y 0 + cond b z 0
    shape b x y z same = grind arith

    to_one : (f n : ℕ) → (is_open h f ≡ true) × (at is_merging h f ≡ true) → (b : Bool) → (f == n) ≡ b →
        cond (is_open h n && at is_merging h n) (cond b 1 0) 0 ≡ cond {A = ℕ} b 1 0
    to_one f n well x3 x4 = search (rules, eqb-true, zero_or_zero)

    by_stop : (s : Stop) → StopsAtOpen h s →
        sum_by (λ n. cond (is_open h n && at is_merging h n) (cond (is_projection_to n s) 1 0) 0) (places h) ≡ cond {A = ℕ} (is_projection s) 1 0
    by_stop (Projection f) well = sum_by-same (λ n. cond (f == n) 1 0) (λ n. cond (is_open h n && at is_merging h n) (cond (f == n) 1 0) 0) (length h)
        (λ n l. to_one f n well (f == n) refl) ∙ count_by_one f (length h) (is_open_within h f well.0)
    by_stop _ well = sum_by_none _ (length h) (λ n l. zero_or_zero (is_open h n && at is_merging h n))
