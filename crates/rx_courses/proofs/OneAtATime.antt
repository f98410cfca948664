-- Who serves a lane of an engine serves it alone until he ends that.
use Rattle.std.proofs.Common.{◌≡◌, ℕ, ◌==◌, ◌&&◌, ◌||◌, not, Bool, true, false, cond, List, [], ◌∷◌, Option, Some, None, is_some, refl, sym, ap, ◌∙◌, subst, if◌then◌else◌}
use Rattle.std.proofs.lemmas.Bool.{false≢true}
use Rattle.rx_resource.specs.declared.Resource.{Ghosts}
use Rattle.rx_resource.specs.declared.token.Token.{Token}
use Rattle.rx_lanes.specs.declared.names.LaneName.{LaneName}
use Rattle.rx_lanes.specs.declared.names.Due.{Due}
use Rattle.rx_lanes.specs.Courses.{LaneCall, putting, freeing, taking, giving_up, joining, parting, IsLaneCall, ends, is_name, Goes, goes_none, goes_own, goes_other, goes_open, goes_settled, goes_kept}
use Rattle.rx_lanes.specs.Lane.{Lane, Taken, put, freed, is_empty, has_any, first_back, first_front, first_given, first_of_lane, served, may_take, taken}
use Rattle.rx_lanes.specs.State.{State as LanesState, lane, Gets}
use Rattle.rx_lanes.proofs.Laws.Courses.{one_at_a_time}
use Rattle.rx_roles.specs.declared.effect.Effect.{Effect}
use Rattle.rx_roles.specs.Effects.{is_last, is_release}
use Rattle.rx_engine.specs.Deliveries.{put_by, PartsIf, Arrives, Delivers, none_delivered, one_delivered}
use Rattle.rx_engine.specs.States.{State}
use Rattle.rx_engine.proofs.Laws.EffectsInLanes.{same_name, other_name}
use Rattle.rx_courses.specs.Courses.{Course, begins, commands, takes, gives_up, effects_of}
use Rattle.rx_courses.specs.Serving.{maker, answered, ends_serving, ServesOneAtATime}
use Rattle.rx_courses.proofs.MovesOfLanes.{Moves, moves_none, moves_kept, moves_joined, moves_opened, moves_left, Rests, rests_none, rests_kept, rests_settled, Runs, runs_resting, runs_settled}
use Rattle.rx_courses.proofs.RunsOfCommands.{command_runs}

module _ (by : ℕ) (name : LaneName) (s : LanesState Effect) where
  -- a call on some lane: on this one, it ends nothing
  goes_call : (t u : LanesState Effect) (call : LaneCall Effect) (other : LaneName) (l : Lane Effect) → Goes by name s t → lane t other ≡ Some l →
      (is_name other name ≡ true → ends by call l ≡ false) → IsLaneCall call t u other l → Goes by name s u
  goes_call t u call other l before found goes_on is = by_name (is_name other name) refl where
    by_name : (b : Bool) → is_name other name ≡ b → Goes by name s u
    by_name true same =
        let own = same_name other name same in
        goes_own call l before (subst (λ (n : LaneName). lane t n ≡ Some l) own found) (goes_on same) (subst (λ (n : LaneName). IsLaneCall call t u n l) own is)
    by_name false differs = goes_other call other l before (other_name other name differs) found is

  goes_moving : (t u : LanesState Effect) → Goes by name s t → Moves t u → Goes by name s u
  goes_moving t u before moves_none = before
  goes_moving t u before (moves_kept {t = x} k rest) = goes_moving x u (goes_kept before k) rest
  goes_moving t u before (moves_joined {t = x} other j rest) = goes_moving x u (goes_call t x joining other j.before before j.found (λ same. refl) j.joins) rest
  goes_moving t u before (moves_opened {t = x} other o rest) = goes_moving x u (goes_open other before o) rest
  goes_moving t u before (moves_left {t = x} other l found turns rest) = goes_moving x u (goes_call t x parting other l before found (λ same. refl) turns) rest

  goes_putting : (t u : LanesState Effect) (word : ℕ) (e : Effect) (l : Lane Effect) → Goes by name s t → lane t e.lane ≡ Some l → Arrives word e l t u →
      Goes by name s u
  goes_putting t u word e l before found a = by_last (is_last e.what) a.parts where
    by_release : (b : Bool) → Gets t a.between e.lane (if b then freed word e l else put e l) → Goes by name s a.between
    by_release true gets = goes_call t a.between (freeing word e) e.lane l before found (λ same. refl) gets
    by_release false gets = goes_call t a.between (putting e) e.lane l before found (λ same. refl) gets

    by_last : (b : Bool) → PartsIf b e.lane (put_by word e l) a.between u → Goes by name s u
    by_last true parts =
        goes_call a.between u parting e.lane (put_by word e l) (by_release (is_release e.what) a.gets) a.gets.found (λ same. refl) parts
    by_last false same = subst (Goes by name s) (sym same) (by_release (is_release e.what) a.gets)

  goes_delivering : (word : ℕ) (t u : LanesState Effect) (es : List Effect) → Goes by name s t → Delivers word t es u → Goes by name s u
  goes_delivering word t u es before (none_delivered k) = goes_kept before k
  goes_delivering word t u es before (one_delivered {t = x} {es = fs} e l found arrives rest) =
      goes_delivering word x u fs (goes_putting t x word e l before found arrives) rest

  goes_resting : (t u : LanesState Effect) → Goes by name s t → Rests t u → Goes by name s u
  goes_resting t u before rests_none = before
  goes_resting t u before (rests_kept {t = x} rests k) = goes_kept (goes_resting t x before rests) k
  goes_resting t u before (rests_settled {t = x} {u = y} word rests moves k is) =
      goes_settled word (goes_kept (goes_moving x y (goes_resting t x before rests) moves) k) is

  goes_running : (word : ℕ) (t u : LanesState Effect) (es : List Effect) (due : List Due) → Goes by name s t → Runs word t es due u → Goes by name s u
  goes_running word t u es due before (runs_resting rests) = goes_resting t u before rests
  goes_running word t u es due before (runs_settled {t = x} {u = y} moves delivers is) =
      goes_settled word (goes_delivering word x y es (goes_moving t x before moves) delivers) is

-- where there is nothing, nobody is given anything
none_given : (l : Lane Effect) (word : ℕ) (inside : Bool) → has_any l ≡ false → (taken word inside l).effect ≡ None
none_given l word inside none = by_leave (may_take word inside l) where
  back : (xs : List Effect) → not (is_empty xs) ≡ false → (first_back l xs).effect ≡ None
  back [] is = refl
  back (x ∷ xs) is = absurd (false≢true (sym is))

  front : (b : Bool) (xs : List Effect) → (not (is_empty xs) || not (is_empty l.back)) ≡ false → (first_front b l xs).effect ≡ None
  front true [] is = refl
  front false [] is = back l.back is
  front b (x ∷ xs) is = absurd (false≢true (sym is))

  given : (o : Option Effect) → (is_some o || (not (is_empty l.front) || not (is_empty l.back))) ≡ false → (first_given inside l o).effect ≡ None
  given None is = front inside l.front is
  given (Some e) is = absurd (false≢true (sym is))

  by_leave : (b : Bool) → (cond b (served word inside (first_of_lane inside l)) (record { effect = None; lane = l })).effect ≡ None
  by_leave true = given l.returned none
  by_leave false = refl

or_both : (a b : Bool) → (a || b) ≡ false → (a ≡ false) × (b ≡ false)
or_both true b is = absurd (false≢true (sym is))
or_both false b is = (refl, is)

-- who asked for more, further out, and was given something, serves on
serves_on : (own word inside some any : Bool) → own ≡ true → (any ≡ false → some ≡ false) → (own && (word && (not inside && not some))) ≡ false →
    (word && (not inside && not any)) ≡ false
serves_on false word inside some any own gives is = absurd (false≢true own)
serves_on true false inside some any own gives is = refl
serves_on true true true some any own gives is = refl
serves_on true true false some true own gives is = refl
serves_on true true false some false own gives is = absurd (false≢true (sym is ∙ ap not (gives refl)))

course_goes : (by : ℕ) (name : LaneName) (g : Ghosts Token) (s t : State) (course : Course g s t) → ends_serving by name course ≡ false →
    Goes by name s.parts.lanes t.parts.lanes
course_goes by name g s t begins goes_on = goes_none
course_goes by name g s t (commands {t = m} before kept c) goes_on =
    goes_running by name s.parts.lanes (maker c) m.parts.lanes t.parts.lanes (effects_of c) (answered c) (course_goes by name g s m before goes_on)
    (command_runs g m t kept c)
course_goes by name g s t (takes {t = m} {answer = answer} from inside word before kept take) goes_on =
    let parts = or_both (ends_serving by name before) (is_name from name && (word == by && (not inside && not (is_some answer)))) goes_on in
    by_lane (lane m.parts.lanes from) refl (course_goes by name g s m before parts.0) parts.1 where
      by_lane : (o : Option (Lane Effect)) → lane m.parts.lanes from ≡ o → Goes by name s.parts.lanes m.parts.lanes →
          (is_name from name && (word == by && (not inside && not (is_some answer)))) ≡ false → Goes by name s.parts.lanes t.parts.lanes
      by_lane None is goes still = subst (λ (x : State). Goes by name s.parts.lanes x.parts.lanes) (sym (take.gone is)) goes
      by_lane (Some l) is goes still =
          goes_call by name s.parts.lanes m.parts.lanes t.parts.lanes (taking word inside) from l goes is
          (λ same. serves_on (is_name from name) (word == by) inside (is_some answer) (has_any l) same
          (λ none. ap (λ (o : Option Effect). is_some o) (take.result l is ∙ none_given l word inside none)) still)
          (take.takes l is)
course_goes by name g s t (gives_up {t = m} from word undone before kept give) goes_on =
    let parts = or_both (ends_serving by name before) (is_name from name && word == by) goes_on in
    by_lane (lane m.parts.lanes from) refl (course_goes by name g s m before parts.0) parts.1 where
      by_lane : (o : Option (Lane Effect)) → lane m.parts.lanes from ≡ o → Goes by name s.parts.lanes m.parts.lanes →
          (is_name from name && word == by) ≡ false → Goes by name s.parts.lanes t.parts.lanes
      by_lane None is goes still = subst (λ (x : State). Goes by name s.parts.lanes x.parts.lanes) (sym (give.gone is)) goes
      by_lane (Some l) is goes still =
          goes_call by name s.parts.lanes m.parts.lanes t.parts.lanes (giving_up word undone) from l goes is
          (λ same. sym (ap (λ (b : Bool). b && word == by) same) ∙ still) (give.gives_up l is)

pub serves_one_at_a_time : (g : Ghosts Token) → ServesOneAtATime g
serves_one_at_a_time g s t course by name l found serves goes_on =
    let now = one_at_a_time s.parts.lanes t.parts.lanes by name l found serves (course_goes by name g s t course goes_on) in
    record {
      now_is = now.0;
      found = now.1;
      served = now.2;
      alone = λ u word inside answer differs take.
          take.result now.0 now.1 ∙ ap (λ (x : Taken Effect). x.effect) (now.3 word differs inside);
    }
