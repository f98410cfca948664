-- What is told of each lane and what is put there, added up over all lanes that a course names.
use Rattle.std.proofs.Common.{◌≡◌, ℕ, ◌+◌, ◌&&◌, ◌||◌, Bool, true, false, List, [], ◌∷◌, ◌++◌, is_some, refl, sym, ap, ◌∙◌, arith, if◌then◌else◌}
use Rattle.std.proofs.lemmas.Bool.{false≢true}
use Rattle.std.specs.Option.{option_to_list}
use Rattle.rx_resource.specs.declared.Resource.{Ghosts}
use Rattle.rx_resource.specs.declared.token.Token.{Token}
use Rattle.rx_lanes.specs.declared.names.LaneName.{LaneName}
use Rattle.rx_lanes.specs.Courses.{is_name}
use Rattle.rx_roles.specs.declared.effect.Effect.{Effect}
use Rattle.rx_engine.specs.States.{State}
use Rattle.rx_engine.proofs.Laws.EffectsInLanes.{same_name, is_itself}
use Rattle.rx_courses.specs.Courses.{Course, begins, commands, takes, gives_up, effects_of, all_effects}
use Rattle.rx_courses.specs.Tellings.{counted, goes_there, put_there, taken_there, returned_there, line_at, EachIsToldOnce}

-- names, each added up once --------------------------------------------------------------------------------

abbrev has : LaneName → List LaneName → Bool
has name [] = false
has name (n ∷ ns) = is_name name n || has name ns

abbrev over : (LaneName → ℕ) → List LaneName → ℕ
over f [] = 0
over f (n ∷ ns) = if has n ns then over f ns else f n + over f ns

or_right : (a b : Bool) → b ≡ true → (a || b) ≡ true
or_right true b is = refl
or_right false b is = is

or_left : (a b : Bool) → a ≡ true → (a || b) ≡ true
or_left true b is = refl
or_left false b is = absurd (false≢true is)

has_left : (name : LaneName) (xs ys : List LaneName) → has name xs ≡ true → has name (xs ++ ys) ≡ true
has_left name [] ys is = absurd (false≢true is)
has_left name (x ∷ xs) ys is = by_first (is_name name x) is (λ later. has_left name xs ys later) where
  by_first : (b : Bool) → (b || has name xs) ≡ true → (has name xs ≡ true → has name (xs ++ ys) ≡ true) → (b || has name (xs ++ ys)) ≡ true
  by_first true is more = refl
  by_first false is more = more is

has_right : (name : LaneName) (xs ys : List LaneName) → has name ys ≡ true → has name (xs ++ ys) ≡ true
has_right name [] ys is = is
has_right name (x ∷ xs) ys is = or_right (is_name name x) (has name (xs ++ ys)) (has_right name xs ys is)

over_sum : (f h : LaneName → ℕ) (ns : List LaneName) → over (λ n. f n + h n) ns ≡ over f ns + over h ns
over_sum f h [] = refl
over_sum f h (n ∷ ns) = by_test (has n ns) (over_sum f h ns) where
  by_test : (b : Bool) → over (λ m. f m + h m) ns ≡ over f ns + over h ns →
      (if b then over (λ m. f m + h m) ns else (f n + h n) + over (λ m. f m + h m) ns) ≡
      (if b then over f ns else f n + over f ns) + (if b then over h ns else h n + over h ns)
  by_test true rest = rest
  by_test false rest = omega (arith, rest)

over_none : (ns : List LaneName) → over (λ n. 0) ns ≡ 0
over_none [] = refl
over_none (n ∷ ns) = by_test (has n ns) (over_none ns) where
  by_test : (b : Bool) → over (λ m. 0) ns ≡ 0 → (if b then over (λ m. 0) ns else 0 + over (λ m. 0) ns) ≡ 0
  by_test true rest = rest
  by_test false rest = omega (arith, rest)

-- what comes of one name alone
over_one : (name : LaneName) (k : ℕ) (ns : List LaneName) → over (λ n. if is_name name n then k else 0) ns ≡ (if has name ns then k else 0)
over_one name k [] = refl
over_one name k (n ∷ ns) = step (has n ns) (is_name name n) (has name ns) _ (over_one name k ns)
    (λ same. ap (λ (m : LaneName). has m ns) (same_name name n same)) where
      step : (b c d : Bool) (rest : ℕ) → rest ≡ (if d then k else 0) → (c ≡ true → d ≡ b) →
          (if b then rest else (if c then k else 0) + rest) ≡ (if (c || d) then k else 0)
      step true true true rest is same = is
      step true true false rest is same = absurd (false≢true (same refl))
      step true false d rest is same = is
      step false true true rest is same = absurd (false≢true (sym (same refl)))
      step false true false rest is same = omega (arith, is)
      step false false true rest is same = omega (arith, is)
      step false false false rest is same = omega (arith, is)

over_there : (name : LaneName) (k : ℕ) (ns : List LaneName) → has name ns ≡ true → over (λ n. if is_name name n then k else 0) ns ≡ k
over_there name k ns there = over_one name k ns ∙ ap (λ (b : Bool). if b then k else 0) there

-- effects ----------------------------------------------------------------------------------------------------

pub counted-append : (test : Effect → Bool) (xs ys : List Effect) → counted test (xs ++ ys) ≡ counted test xs + counted test ys
counted-append test [] ys = omega arith
counted-append test (x ∷ xs) ys = let rest = counted-append test xs ys in omega (arith, rest)

abbrev lanes_of : List Effect → List LaneName
lanes_of [] = []
lanes_of (e ∷ es) = e.lane ∷ lanes_of es

many_if : (a b : Bool) (many : ℕ) → (if (a && b) then many else 0) ≡ (if a then (if b then many else 0) else 0)
many_if true b many = refl
many_if false b many = refl

over_effects : (test : Effect → Bool) (ns : List LaneName) (es : List Effect) → ((n : LaneName) → has n (lanes_of es) ≡ true → has n ns ≡ true) →
    over (λ n. counted (goes_there test n) es) ns ≡ counted test es
over_effects test ns [] within = over_none ns
over_effects test ns (e ∷ es) within =
    let both = over_sum (λ n. if goes_there test n e then 1 else 0) (λ n. counted (goes_there test n) es) ns in
    let same : over (λ n. if goes_there test n e then 1 else 0) ns ≡ over (λ n. if is_name e.lane n then (if test e then 1 else 0) else 0) ns =
    λ i. over (λ n. many_if (is_name e.lane n) (test e) 1 i) ns in
    let one = over_there e.lane (if test e then 1 else 0) ns (within e.lane (or_left _ _ (is_itself e.lane))) in
    let rest = over_effects test ns es (λ n is. within n (or_right _ _ is)) in
    omega (arith, both, same, one, rest)

-- courses ----------------------------------------------------------------------------------------------------

-- how many effects were taken, and how many given back, whatever their lanes
abbrev pub all_taken : {g : Ghosts Token} {s t : State} → (Effect → Bool) → Course g s t → ℕ
all_taken test begins = 0
all_taken test (commands before kept command) = all_taken test before
all_taken test (takes {answer = answer} from inside by before kept taken) = all_taken test before + counted test (option_to_list answer)
all_taken test (gives_up from by _ before kept given) = all_taken test before

abbrev pub all_returned : {g : Ghosts Token} {s t : State} → (Effect → Bool) → Course g s t → ℕ
all_returned test begins = 0
all_returned test (commands before kept command) = all_returned test before
all_returned test (takes from inside by before kept taken) = all_returned test before
all_returned test (gives_up {answer = answer} from by undone before kept given) =
    all_returned test before + (if is_some answer then counted test (option_to_list undone) else 0)

-- the lanes that it names
abbrev lanes_in : {g : Ghosts Token} {s t : State} → Course g s t → List LaneName
lanes_in begins = []
lanes_in (commands before kept command) = lanes_of (effects_of command) ++ lanes_in before
lanes_in (takes from inside by before kept taken) = from ∷ lanes_in before
lanes_in (gives_up from by _ before kept given) = from ∷ lanes_in before

module _ (test : Effect → Bool) (ns : List LaneName) where
  abbrev Within : {g : Ghosts Token} {s t : State} → Course g s t → Type 0
  Within course = (n : LaneName) → has n (lanes_in course) ≡ true → has n ns ≡ true

  over_put : {g : Ghosts Token} {s t : State} (course : Course g s t) → Within course →
      over (λ n. put_there test n course) ns ≡ counted test (all_effects course)
  over_put begins within = over_none ns
  over_put (commands before kept c) within =
      let both = over_sum (λ n. put_there test n before) (λ n. counted (goes_there test n) (effects_of c)) ns in
      let first = over_put before (λ n is. within n (has_right n (lanes_of (effects_of c)) (lanes_in before) is)) in
      let more = over_effects test ns (effects_of c) (λ n is. within n (has_left n (lanes_of (effects_of c)) (lanes_in before) is)) in
      let all = counted-append test (all_effects before) (effects_of c) in
      omega (arith, both, first, more, all)
  over_put (takes from inside by before kept take) within = over_put before (λ n is. within n (or_right _ _ is))
  over_put (gives_up from by _ before kept give) within = over_put before (λ n is. within n (or_right _ _ is))

  over_taken : {g : Ghosts Token} {s t : State} (course : Course g s t) → Within course →
      over (λ n. taken_there test n course) ns ≡ all_taken test course
  over_taken begins within = over_none ns
  over_taken (commands before kept c) within = over_taken before (λ n is. within n (has_right n (lanes_of (effects_of c)) (lanes_in before) is))
  over_taken (takes {answer = answer} from inside by before kept take) within =
      let both = over_sum (λ n. taken_there test n before) (λ n. if is_name from n then counted test (option_to_list answer) else 0) ns in
      let first = over_taken before (λ n is. within n (or_right _ _ is)) in
      let one = over_there from (counted test (option_to_list answer)) ns (within from (or_left _ _ (is_itself from))) in
      omega (arith, both, first, one)
  over_taken (gives_up from by _ before kept give) within = over_taken before (λ n is. within n (or_right _ _ is))

  over_returned : {g : Ghosts Token} {s t : State} (course : Course g s t) → Within course →
      over (λ n. returned_there test n course) ns ≡ all_returned test course
  over_returned begins within = over_none ns
  over_returned (commands before kept c) within = over_returned before (λ n is. within n (has_right n (lanes_of (effects_of c)) (lanes_in before) is))
  over_returned (takes from inside by before kept take) within = over_returned before (λ n is. within n (or_right _ _ is))
  over_returned (gives_up {answer = answer} from by undone before kept give) within =
      let many = counted test (option_to_list undone) in
      let both = over_sum (λ n. returned_there test n before) (λ n. if (is_name from n && is_some answer) then many else 0) ns in
      let first = over_returned before (λ n is. within n (or_right _ _ is)) in
      let same : over (λ n. if (is_name from n && is_some answer) then many else 0) ns ≡
      over (λ n. if is_name from n then (if is_some answer then many else 0) else 0) ns =
      λ i. over (λ n. many_if (is_name from n) (is_some answer) many i) ns in
      let one = over_there from (if is_some answer then many else 0) ns (within from (or_left _ _ (is_itself from))) in
      omega (arith, both, first, same, one)

-- of a course from an engine without lanes to one whose lanes are empty
pub told_once : (g : Ghosts Token) → EachIsToldOnce g → (test : Effect → Bool) (s t : State) → s.parts.lanes.places ≡ [] →
    ((n : LaneName) → counted test (line_at n t.parts.lanes) ≡ 0) → (course : Course g s t) →
    all_taken test course ≡ counted test (all_effects course) + all_returned test course
told_once g law test s t begun over_all course =
    let ns = lanes_in course in
    let each : over (λ n. taken_there test n course) ns ≡ over (λ n. put_there test n course + returned_there test n course) ns =
    λ i. over (λ n. one_lane n i) ns in
    let both = over_sum (λ n. put_there test n course) (λ n. returned_there test n course) ns in
    let taken_all = over_taken test ns course (λ n is. is) in
    let put_all = over_put test ns course (λ n is. is) in
    let returned_all = over_returned test ns course (λ n is. is) in
    omega (arith, each, both, taken_all, put_all, returned_all) where
      one_lane : (n : LaneName) → taken_there test n course ≡ put_there test n course + returned_there test n course
      one_lane n = let all = law test n s t begun course in let none = over_all n in omega (arith, all, none)
