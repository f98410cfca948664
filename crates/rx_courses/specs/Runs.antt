-- What the lanes of an engine go through is a course of lanes, so that what holds of all of those holds of them.
use Rattle.std.specs.Prelude.{◌≡◌, true, Some, []}
use Rattle.rx_resource.specs.declared.Resource.{Ghosts}
use Rattle.rx_resource.specs.declared.token.Token.{Token}
use Rattle.rx_lanes.specs.declared.names.LaneName.{LaneName}
use Rattle.rx_lanes.specs.Courses.{Log, Course as LanesCourse}
use Rattle.rx_lanes.specs.Lane.{Lane, is_left}
use Rattle.rx_lanes.specs.State.{lane}
use Rattle.rx_roles.specs.declared.effect.Effect.{Effect}
use Rattle.rx_engine.specs.States.{State}
use Rattle.rx_courses.specs.Courses.{Course}
use Rattle.rx_courses.specs.Tellings.{told_there, IsHonest}

-- the lanes had this course, and of each lane was told what the engine's course says
pub record IsRun {g : Ghosts Token} {s t : State} (course : Course g s t) : Type 0 where
  pub logs : LaneName → Log Effect
  pub run : LanesCourse logs t.parts.lanes
  pub told_is : (name : LaneName) → (logs name).told ≡ told_there name course
  -- nothing is stuck: what has something and no server was named by an answer since somebody last took of it
  pub left_named : (name : LaneName) (l : Lane Effect) → lane t.parts.lanes name ≡ Some l → is_left l ≡ true →
      (logs name).named ≡ true

abbrev pub LanesRun : Ghosts Token → Type 0
LanesRun g = (s t : State) → s.parts.lanes.places ≡ [] → (course : Course g s t) → IsHonest course → IsRun course
