-- What a command leaves in lanes that nobody serves, and who serves lanes behind it.
use Rattle.std.specs.Prelude.{◌≡◌, ◌⊎◌, ℕ, true, List, [], ◌∷◌, Some, ⊤}
use Rattle.rx_resource.specs.declared.Resource.{Ghosts}
use Rattle.rx_resource.specs.declared.token.Token.{Token}
use Rattle.rx_lanes.specs.declared.names.LaneName.{LaneName}
use Rattle.rx_lanes.specs.declared.names.Due.{Due}
use Rattle.rx_lanes.specs.Courses.{is_named}
use Rattle.rx_lanes.specs.Lane.{Lane, is_served}
use Rattle.rx_lanes.specs.State.{State as LanesState, lane, IsLeft}
use Rattle.rx_roles.specs.declared.effect.Effect.{Effect}
use Rattle.rx_engine.specs.States.{State, IsPromised}
use Rattle.rx_courses.specs.Courses.{IsCommand}
use Rattle.rx_courses.specs.Serving.{answered}

-- this word serves the lane
abbrev pub IsServedBy : LanesState Effect → LaneName → ℕ → Type 0
IsServedBy s name by = (l : Lane Effect) × (lane s name ≡ Some l) × (l.server ≡ Some by)

-- each of these lanes is there, and is named as one to go on with inside just where it is served
abbrev pub AreThere : LanesState Effect → List Due → Type 0
AreThere s [] = ⊤
AreThere s (d ∷ ds) = ((l : Lane Effect) × (lane s d.lane ≡ Some l) × (d.inside ≡ is_served l)) × AreThere s ds

-- Of a command, where no lane got something since the last one: a lane that is left behind it was left before, or its answer names it; who serves a
-- lane served it before; what is named is there; and no lane got something since
pub record NamesWhatIsLeft (g : Ghosts Token) (s t : State) (c : IsCommand g s t) : Type 0 where
  pub left : (name : LaneName) → IsLeft t.parts.lanes name → IsLeft s.parts.lanes name ⊎ (is_named name (answered c) ≡ true)
  pub served : (name : LaneName) (by : ℕ) → IsServedBy t.parts.lanes name by → IsServedBy s.parts.lanes name by
  pub named : AreThere t.parts.lanes (answered c)
  pub settled : t.parts.lanes.fresh ≡ []

abbrev pub CommandsNameWhatIsLeft : Ghosts Token → Type 0
CommandsNameWhatIsLeft g = (s t : State) → IsPromised s → s.parts.lanes.fresh ≡ [] → (c : IsCommand g s t) → NamesWhatIsLeft g s t c
