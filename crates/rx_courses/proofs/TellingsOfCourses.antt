-- Of each lane, what was taken there or waits there is what was put there or given back.
use Rattle.std.proofs.Common.{◌≡◌, ℕ, ◌+◌, ◌&&◌, Bool, true, false, cond, List, [], ◌∷◌, ◌++◌, Option, Some, None, is_some, slice_index_or, refl, sym, ap, ◌∙◌, arith, subst, if◌then◌else◌}
use Rattle.std.specs.Option.{option_to_list}
use Rattle.rx_resource.specs.declared.Resource.{Ghosts}
use Rattle.rx_resource.specs.declared.token.Token.{Token}
use Rattle.rx_lanes.specs.declared.names.LaneName.{LaneName}
use Rattle.rx_lanes.specs.declared.names.Due.{Due}
use Rattle.rx_lanes.specs.Courses.{is_name}
use Rattle.rx_lanes.specs.Lane.{Lane, line, listed, serves, put, freed, parted}
use Rattle.rx_lanes.specs.State.{State as LanesState, Opened, with_turn, lane}
use Rattle.rx_roles.specs.declared.effect.Effect.{Effect}
use Rattle.rx_roles.specs.Effects.{is_last, is_release}
use Rattle.rx_engine.specs.Deliveries.{put_by, Delivers, none_delivered, one_delivered}
use Rattle.rx_engine.specs.States.{State, IsPromised}
use Rattle.rx_courses.specs.Courses.{IsCommand, Course, begins, commands, takes, gives_up, effects_of}
use Rattle.rx_courses.specs.Serving.{maker, answered}
use Rattle.rx_courses.specs.Tellings.{line_in, line_at, counted, goes_there, put_there, taken_there, returned_there, EachIsToldOnce}
use Rattle.rx_engine.proofs.Laws.EffectsInLanes.{same_name, other_name, delivered, arrives_gets}
use Rattle.rx_courses.proofs.MovesOfLanes.{Runs, runs_resting, runs_settled}
use Rattle.rx_courses.proofs.RunsOfCommands.{command_runs}
use Rattle.rx_courses.proofs.OrderOfCourses.{moves_line, rests_line, take_line, give_up_line}

pub counted-append : (test : Effect → Bool) (xs ys : List Effect) → counted test (xs ++ ys) ≡ counted test xs + counted test ys
counted-append test [] ys = omega arith
counted-append test (x ∷ xs) ys = let rest = counted-append test xs ys in omega (arith, rest)

counted_if : (test : Effect → Bool) (b : Bool) (es : List Effect) → counted test (if b then es else []) ≡ (if b then counted test es else 0)
counted_if test true es = refl
counted_if test false es = refl

-- one more effect is in a lane
delivered_counted : (test : Effect → Bool) (by : ℕ) (e : Effect) (l : Lane Effect) →
    counted test (line (delivered by e l)) ≡ counted test (line l) + (if test e then 1 else 0)
delivered_counted test by e l = by_last (is_last e.what) where
  three : (o : Option Effect) (front back : List Effect) → counted test (listed o ++ (front ++ back)) ≡ counted test (listed o) +
      (counted test front + counted test back)
  three o front back =
      let a = counted-append test (listed o) (front ++ back) in let b = counted-append test front back in omega (arith, a, b)

  behind : counted test (line (put e l)) ≡ counted test (line l) + (if test e then 1 else 0)
  behind =
      let a = three l.returned l.front (l.back ++ e ∷ []) in let b = three l.returned l.front l.back in
      let c = counted-append test l.back (e ∷ []) in omega (arith, a, b, c)

  before : counted test (line (record l { front = l.front ++ e ∷ [] })) ≡ counted test (line l) + (if test e then 1 else 0)
  before =
      let a = three l.returned (l.front ++ e ∷ []) l.back in let b = three l.returned l.front l.back in
      let c = counted-append test l.front (e ∷ []) in omega (arith, a, b, c)

  by_server : (b : Bool) → counted test (line (cond b (record l { front = l.front ++ e ∷ [] }) (put e l))) ≡ counted test (line l) + (if test e then 1 else 0)
  by_server true = before
  by_server false = behind

  by_release : (b : Bool) → counted test (line (if b then freed by e l else put e l)) ≡ counted test (line l) + (if test e then 1 else 0)
  by_release true = by_server (serves by l)
  by_release false = behind

  by_last : (b : Bool) → counted test (line (if b then parted (put_by by e l) else put_by by e l)) ≡ counted test (line l) + (if test e then 1 else 0)
  by_last true = by_release (is_release e.what)
  by_last false = by_release (is_release e.what)

delivers_counted : (test : Effect → Bool) (name : LaneName) (by : ℕ) (s t : LanesState Effect) (es : List Effect) → Delivers by s es t →
    counted test (line_at name t) ≡ counted test (line_at name s) + counted (goes_there test name) es
delivers_counted test name by s t es (none_delivered k) = let same = ap (λ (o : Option (Lane Effect)). counted test (line_in o)) (k.lanes name) in
    omega (arith, same)
delivers_counted test name by s t es (one_delivered {t = m} {es = fs} e l found arrives rest) =
    let gets = arrives_gets s m by e l arrives in
    let here = one (is_name e.lane name) refl gets.found (λ differs. gets.others name (other_name e.lane name differs)) in
    let left = delivers_counted test name by m t fs rest in
    omega (arith, here, left) where
      one : (b : Bool) → is_name e.lane name ≡ b → lane m e.lane ≡ Some (delivered by e l) → (is_name e.lane name ≡ false → lane m name ≡ lane s name) →
          counted test (line_at name m) ≡ counted test (line_at name s) + (if (b && test e) then 1 else 0)
      one true is has others =
          subst (λ (n : LaneName). counted test (line_at n m) ≡ counted test (line_at n s) + (if test e then 1 else 0)) (same_name e.lane name is)
          (ap (λ (o : Option (Lane Effect)). counted test (line_in o)) has ∙ delivered_counted test by e l
          ∙ ap (λ (o : Option (Lane Effect)). counted test (line_in o) + (if test e then 1 else 0)) (sym found))
      one false is has others = let same = ap (λ (o : Option (Lane Effect)). counted test (line_in o)) (others is) in omega (arith, same)

runs_counted : (test : Effect → Bool) (name : LaneName) (by : ℕ) (s t : LanesState Effect) (es : List Effect) (due : List Due) → Runs by s es due t →
    counted test (line_at name t) ≡ counted test (line_at name s) + counted (goes_there test name) es
runs_counted test name by s t es due (runs_resting rests) = let same = ap (counted test) (rests_line name s t rests) in omega (arith, same)
runs_counted test name by s t es due (runs_settled {t = m} {u = p} moves delivers is) =
    let all = delivers_counted test name by m p es delivers in
    let left = ap (counted test) (moves_line name s m moves) in
    let same = ap (λ (x : LanesState Effect). counted test (line_at name x)) is in
    omega (arith, all, left, same)

command_counted : (test : Effect → Bool) (name : LaneName) (g : Ghosts Token) (s t : State) → IsPromised s → (c : IsCommand g s t) →
    counted test (line_at name t.parts.lanes) ≡ counted test (line_at name s.parts.lanes) + counted (goes_there test name) (effects_of c)
command_counted test name g s t kept c =
    runs_counted test name (maker c) s.parts.lanes t.parts.lanes (effects_of c) (answered c) (command_runs g s t kept c)

course_counted : (test : Effect → Bool) (name : LaneName) (g : Ghosts Token) (s t : State) (course : Course g s t) →
    taken_there test name course + counted test (line_at name t.parts.lanes) ≡ counted test (line_at name s.parts.lanes) +
    (put_there test name course + returned_there test name course)
course_counted test name g s t begins = omega arith
course_counted test name g s t (commands {t = m} before kept c) =
    let rest = course_counted test name g s m before in let one = command_counted test name g m t kept c in omega (arith, rest, one)
course_counted test name g s t (takes {t = m} {answer = answer} from inside by before kept take) =
    let rest = course_counted test name g s m before in
    let one = ap (counted test) (take_line name m t from inside by answer take) in
    let both = counted-append test (if is_name from name then option_to_list answer else []) (line_at name t.parts.lanes) in
    let here = counted_if test (is_name from name) (option_to_list answer) in
    omega (arith, rest, one, both, here)
course_counted test name g s t (gives_up {t = m} {answer = answer} from by undone before kept give) =
    let rest = course_counted test name g s m before in
    let one = ap (counted test) (give_up_line name m t from by undone answer kept give) in
    let both = counted-append test (if (is_name from name && is_some answer) then option_to_list undone else []) (line_at name m.parts.lanes) in
    let here = counted_if test (is_name from name && is_some answer) (option_to_list undone) in
    omega (arith, rest, one, both, here)

pub each_is_told_once : (g : Ghosts Token) → EachIsToldOnce g
each_is_told_once g test name s t empty course =
    let all = course_counted test name g s t course in
    let none = ap (λ (ps : List (Option (Opened Effect))). counted test (line_in (with_turn name.turn (slice_index_or ps name.place None)))) empty in
    omega (arith, all, none)
