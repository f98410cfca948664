-- Who is to serve a lane, who serves it, and that nothing is stuck there.
use Rattle.std.specs.Prelude.{◌≡◌, ◌≢◌, ℕ, ◌==◌, ◌&&◌, ◌||◌, Bool, true, false, List, [], ◌∷◌, Option, Some, None, is_some}
use Rattle.std.proofs.Math.Bool.{not}
use Rattle.rx_resource.specs.declared.Resource.{Ghosts}
use Rattle.rx_resource.specs.declared.token.Token.{Token}
use Rattle.rx_lanes.specs.declared.names.LaneName.{LaneName}
use Rattle.rx_lanes.specs.declared.names.Due.{Due}
use Rattle.rx_lanes.specs.Courses.{is_name, is_named, is_named_inside, is_true}
use Rattle.rx_lanes.specs.Lane.{Lane, is_served, serves, is_empty, is_left}
use Rattle.rx_lanes.specs.State.{lane}
use Rattle.rx_roles.specs.declared.effect.Effect.{Effect}
use Rattle.rx_engine.specs.States.{State, IsPromised}
use Rattle.rx_engine.specs.Servings.{IsTake}
use Rattle.rx_courses.specs.Courses.{IsCommand, is_refused, has_done, has_held, has_used, has_opened, has_put, has_subscribed, has_connected, has_made_hubs, has_checkpointed}
use Rattle.rx_courses.specs.Courses.{Course, begins, commands, takes, gives_up, effects_of}
use Rattle.rx_courses.specs.Tellings.{IsHonest}

-- who made a command, where that is known: a checkpoint is nobody's
abbrev pub maker : {g : Ghosts Token} {s t : State} → IsCommand g s t → ℕ
maker (is_refused seen) = 0
maker (has_done by value plain done) = by
maker (has_held node tag by done) = by
maker (has_used at kind user tag by alone done) = by
maker (has_opened at kind user by alone done) = by
maker (has_put to user value by done) = by
maker (has_subscribed at share user by place done) = by
maker (has_connected share user by place done) = by
maker (has_made_hubs by makes) = by
maker (has_checkpointed made) = 0

-- the lanes that its answer names: none where it was refused, and none by the making of hubs or a checkpoint
abbrev pub answered : {g : Ghosts Token} {s t : State} → IsCommand g s t → List Due
answered (is_refused seen) = []
answered (has_made_hubs by makes) = []
answered (has_checkpointed made) = []
answered {t = t} _ = t.parts.lanes.due

-- at once --------------------------------------------------------------------------------------------

-- one of the effects goes to this lane
abbrev pub gets_any : LaneName → List Effect → Bool
gets_any name [] = false
gets_any name (e ∷ es) = is_name e.lane name || gets_any name es

-- nobody serves the lane, and the answer names it; or another word serves it; or the maker's does, further out, and the
-- answer says so where he set something free
pub data IsAtOnce (by : ℕ) (due : List Due) (name : LaneName) (l : Lane Effect) : Type 0 where
  nobody_serves : is_served l ≡ false → is_named name due ≡ true → IsAtOnce by due name l
  another_serves : is_served l ≡ true → serves by l ≡ false → IsAtOnce by due name l
  maker_serves : serves by l ≡ true → (is_empty l.front ≡ false → is_named_inside name due ≡ true) →
      IsAtOnce by due name l

-- at once: a lane that got something by a command is named by its answer, or is being served
abbrev pub NamesAtOnce : Ghosts Token → Type 0
NamesAtOnce g = (s t u : State) → s.parts.lanes.places ≡ [] → (course : Course g s t) → IsHonest course →
    IsPromised t → (c : IsCommand g t u) →
    (name : LaneName) → gets_any name (effects_of c) ≡ true →
    (l : Lane Effect) × (lane u.parts.lanes name ≡ Some l) × IsAtOnce (maker c) (answered c) name l

-- one at a time --------------------------------------------------------------------------------------

-- who served a lane ended that: he gave it up, or asked for more and was given nothing, but to go on inside
abbrev pub ends_serving : {g : Ghosts Token} {s t : State} → ℕ → LaneName → Course g s t → Bool
ends_serving by name begins = false
ends_serving by name (commands before kept command) = ends_serving by name before
ends_serving by name (takes {answer = answer} from inside word before kept taken) =
    ends_serving by name before || (is_name from name && (word == by && (not inside && not (is_some answer))))
ends_serving by name (gives_up from word _ before kept given) = ends_serving by name before || (is_name from name &&
    word == by)

-- this word serves the lane, and no other is given anything of it
pub record ServesAlone (by : ℕ) (name : LaneName) (t : State) : Type 0 where
  pub now_is : Lane Effect
  pub found : lane t.parts.lanes name ≡ Some now_is
  pub served : now_is.server ≡ Some by
  pub alone : (u : State) (word : ℕ) (inside : Bool) (answer : Option Effect) → word ≢ by →
      IsTake name inside word t u answer → answer ≡ None

-- one at a time: who serves a lane serves it alone until he ends that
abbrev pub ServesOneAtATime : Ghosts Token → Type 0
ServesOneAtATime g = (s t : State) (course : Course g s t) (by : ℕ) (name : LaneName) (l : Lane Effect) →
    lane s.parts.lanes name ≡ Some l →
    l.server ≡ Some by → ends_serving by name course ≡ false → ServesAlone by name t

-- nothing is stuck -----------------------------------------------------------------------------------

-- an answer named the lane, as nobody served it, or told who gave it up that something was left, since somebody was
-- last given something of it
abbrev pub named_there : {g : Ghosts Token} {s t : State} → LaneName → Course g s t → Bool
named_there name begins = false
named_there name (commands before kept command) = named_there name before || is_named name (answered command)
named_there name (takes {answer = answer} from inside by before kept taken) = not (is_name from name && is_some answer)
    && named_there name before
named_there name (gives_up {answer = answer} from by _ before kept given) = named_there name before || (is_name from
    name && is_true answer)

-- nothing is stuck: a lane that has something, and that nobody serves, was named by an answer
abbrev pub NothingIsStuck : Ghosts Token → Type 0
NothingIsStuck g = (s t : State) → s.parts.lanes.places ≡ [] → (course : Course g s t) → IsHonest course →
    (name : LaneName) (l : Lane Effect) →
    lane t.parts.lanes name ≡ Some l → is_left l ≡ true → named_there name course ≡ true
