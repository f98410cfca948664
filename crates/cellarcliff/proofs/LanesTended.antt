-- No call on a handle loses a lane.
use Rattle.std.proofs.Common.{◌≡◌, List, Some, None, sym, subst}
use Rattle.std.proofs.lemmas.Option.{same_Some}
use Rattle.rx_resource.specs.declared.Resource.{Ghosts}
use Rattle.rx_resource.specs.declared.token.Token.{Token}
use Rattle.rx_turns.specs.declared.turns.Turns.{Turns}
use Rattle.rx_turns.specs.States.{turn_state}
use Rattle.rx_turns.specs.Tended.{NoLaneIsLost, LosesNoLane}
use Rattle.cellarcliff.specs.Courses.{Shown, IsCellarCall, cellar_step, cellar_next, cellar_pass, cellar_stop, cellar_closings, cellar_totals, cellar_event}
use Rattle.cellarcliff.specs.Courses.{cellar_dump, cellar_new, cellar_finish, CellarCourse, no_call, calls_on}
use Rattle.cellarcliff.specs.LanesServed.{CallsTendEachLane}
use Rattle.cellarcliff.specs.Steps.{turn_of}
use Rattle.cellarcliff.proofs.CallsMakeCourses.{same_turns, not_made, not_finished, said, begins_so}

module _ (g : Ghosts Token) (law : LosesNoLane g) where
  -- what the handle keeps is as it was
  still : (s t : Turns) → Some t ≡ Some s → NoLaneIsLost (turn_state s) → NoLaneIsLost (turn_state t)
  still s t same k = subst (λ (x : Turns). NoLaneIsLost (turn_state x)) (sym (same_Some t s same)) k

  by_call : (s t : Turns) (shown : List Shown) → IsCellarCall g s shown t → NoLaneIsLost (turn_state s) → NoLaneIsLost (turn_state t)
  by_call s t _ (cellar_step {status = status} stack command a b on) k =
      let told = (said s t status on).0 in
      law.steps (turn_of stack) stack.begun (Some command) (turn_state s) (turn_state t) a told.made told.step k told.steps
  by_call s t _ (cellar_next {status = status} stack a b on) k =
      let told = (said s t status on).0 in law.steps (turn_of stack) stack.begun None (turn_state s) (turn_state t) a told.made told.step k told.steps
  by_call s t _ (cellar_pass {status = status} stack from now on) k =
      law.passes (turn_of stack) stack.begun from _ (turn_state s) (turn_state t) k (said s t status on).0.0
  by_call s t _ (cellar_stop {status = status} stack on) k = law.stops (turn_of stack) stack.begun (turn_state s) (turn_state t) k (said s t status on).0.0
  by_call s t _ (cellar_closings {status = status} from on) k = still s t (same_turns s t status on) k
  by_call s t _ (cellar_totals {status = status} on) k = still s t (same_turns s t status on) k
  by_call s t _ (cellar_event {status = status} place on) k = still s t (same_turns s t status on) k
  by_call s t _ (cellar_dump {status = status} on) k = still s t (same_turns s t status on) k
  by_call s t _ (cellar_new {status = status} max_events on) k = still s t (not_made max_events s t status on) k
  by_call s t _ (cellar_finish {status = status} on) k = still s t (not_finished s t status on) k

  by_calls : (s t : Turns) (shown : List Shown) → CellarCourse g s shown t → NoLaneIsLost (turn_state s) → NoLaneIsLost (turn_state t)
  by_calls s _ _ no_call k = k
  by_calls s u _ (calls_on {shown = shown} {more = more} {t = t} before call) k = by_call t u more call (by_calls s t shown before k)

pub calls_tend_each_lane : (g : Ghosts Token) → LosesNoLane g → CallsTendEachLane g
calls_tend_each_lane g law max_events made first last shown new course =
    let begins = begins_so max_events made first new in
    let kept = by_calls g law first last shown course (law.begins _ (turn_state first) begins.new.engine begins.promised begins.new.nothing) in
    record { tended = kept; over = law.ends (turn_state last) kept }
