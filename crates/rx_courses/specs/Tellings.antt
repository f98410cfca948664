-- What is told of each lane: nothing is lost there, and nothing comes twice.
use Rattle.std.specs.Prelude.{◌≡◌, ℕ, ◌+◌, ⊤, Bool, true, List, [], ◌∷◌, ◌++◌, Option, Some, None, is_some, ◌&&◌, if◌then◌else◌}
use Rattle.std.specs.Option.{option_to_list}
use Rattle.rx_resource.specs.declared.Resource.{Ghosts}
use Rattle.rx_resource.specs.declared.token.Token.{Token}
use Rattle.rx_lanes.specs.declared.names.LaneName.{LaneName}
use Rattle.rx_lanes.specs.Courses.{is_name, all_but_last}
use Rattle.rx_lanes.specs.Lane.{Lane, line}
use Rattle.rx_lanes.specs.State.{State as LanesState, lane}
use Rattle.rx_roles.specs.declared.effect.Effect.{Effect}
use Rattle.rx_roles.specs.Effects.{is_release}
use Rattle.rx_engine.specs.States.{State}
use Rattle.rx_courses.specs.Courses.{Course, begins, commands, takes, gives_up, effects_of, all_effects}

-- what waits in a lane, and in that of a name, in the order in which it will be taken
abbrev pub line_in : Option (Lane Effect) → List Effect
line_in None = []
line_in (Some l) = line l

abbrev pub line_at : LaneName → LanesState Effect → List Effect
line_at name s = line_in (lane s name)

-- in order -------------------------------------------------------------------------------------------

-- those that go to a lane, in order
abbrev pub those_there : LaneName → List Effect → List Effect
those_there name [] = []
those_there name (e ∷ es) = if is_name e.lane name then e ∷ those_there name es else those_there name es

-- all but releases
abbrev pub but_releases : List Effect → List Effect
but_releases [] = []
but_releases (e ∷ es) = if is_release e.what then but_releases es else e ∷ but_releases es

-- what was taken of a lane and not given back, in the order of that
abbrev pub told_there : {g : Ghosts Token} {s t : State} → LaneName → Course g s t → List Effect
told_there name begins = []
told_there name (commands before kept command) = told_there name before
told_there name (takes {answer = answer} from inside by before kept taken) = told_there name before ++
    (if is_name from name then option_to_list answer else [])
told_there name (gives_up {answer = answer} from by undone before kept given) =
    if (is_name from name && (is_some answer && is_some undone)) then all_but_last (told_there name before) else
    told_there name before

-- who gives something back gives what was told last there
abbrev pub IsHonest : {g : Ghosts Token} {s t : State} → Course g s t → Type 0
IsHonest begins = ⊤
IsHonest (commands before kept command) = IsHonest before
IsHonest (takes from inside by before kept taken) = IsHonest before
IsHonest (gives_up {answer = answer} from by undone before kept given) =
    IsHonest before × ((e : Effect) → is_some answer ≡ true → undone ≡ Some e →
    (es : List Effect) × (told_there from before ≡ es ++ e ∷ []))

-- all but releases, which may come before their turn, is told of each lane in the order in which it was put there
abbrev pub TellsInOrder : Ghosts Token → Type 0
TellsInOrder g = (name : LaneName) (s t : State) → s.parts.lanes.places ≡ [] → (course : Course g s t) →
    IsHonest course →
    but_releases (told_there name course ++ line_at name t.parts.lanes) ≡ but_releases
    (those_there name (all_effects course))

-- once -----------------------------------------------------------------------------------------------

-- how many of the effects pass a test
abbrev pub counted : (Effect → Bool) → List Effect → ℕ
counted test [] = 0
counted test (e ∷ es) = (if test e then 1 else 0) + counted test es

-- and go to this lane
abbrev pub goes_there : (Effect → Bool) → LaneName → Effect → Bool
goes_there test name e = is_name e.lane name && test e

-- how many commands put there
abbrev pub put_there : {g : Ghosts Token} {s t : State} → (Effect → Bool) → LaneName → Course g s t → ℕ
put_there test name begins = 0
put_there test name (commands before kept command) = put_there test name before + counted (goes_there test name)
    (effects_of command)
put_there test name (takes from inside by before kept taken) = put_there test name before
put_there test name (gives_up from by _ before kept given) = put_there test name before

-- how many were taken there
abbrev pub taken_there : {g : Ghosts Token} {s t : State} → (Effect → Bool) → LaneName → Course g s t → ℕ
taken_there test name begins = 0
taken_there test name (commands before kept command) = taken_there test name before
taken_there test name (takes {answer = answer} from inside by before kept taken) =
    taken_there test name before + (if is_name from name then counted test (option_to_list answer) else 0)
taken_there test name (gives_up from by _ before kept given) = taken_there test name before

-- how many were given back there, by who served it
abbrev pub returned_there : {g : Ghosts Token} {s t : State} → (Effect → Bool) → LaneName → Course g s t → ℕ
returned_there test name begins = 0
returned_there test name (commands before kept command) = returned_there test name before
returned_there test name (takes from inside by before kept taken) = returned_there test name before
returned_there test name (gives_up {answer = answer} from by undone before kept given) =
    returned_there test name before + (if (is_name from name && is_some answer) then counted test
    (option_to_list undone) else 0)

-- each is told once: of each lane, and by whatever test, as many were taken, or wait there, as were put there or
-- given back
abbrev pub EachIsToldOnce : Ghosts Token → Type 0
EachIsToldOnce g = (test : Effect → Bool) (name : LaneName) (s t : State) → s.parts.lanes.places ≡ [] →
    (course : Course g s t) →
    taken_there test name course + counted test (line_at name t.parts.lanes) ≡ put_there test name course +
    returned_there test name course
