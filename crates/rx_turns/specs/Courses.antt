-- Each call of a face is a course of the engine.
use Rattle.std.specs.Prelude.{◌≡◌, ◌==◌, ◌⊎◌, ℕ, ◌+◌, min, Bool, false, List, [], ◌∷◌, ◌++◌, Option, Some, None, if◌then◌else◌}
use Rattle.rx_resource.specs.declared.Resource.{Ghosts}
use Rattle.rx_resource.specs.declared.token.Token.{Token}
use Rattle.rx_lanes.specs.declared.names.LaneName.{LaneName}
use Rattle.rx_roles.specs.declared.effect.Effect.{Effect as Sent}
use Rattle.rx_roles.specs.declared.effect.What.{What}
use Rattle.rx_roles.specs.Effects.{carries}
use Rattle.rx_engine.specs.States.{State}
use Rattle.rx_courses.specs.Courses.{IsCommand, has_held, has_used, Course, begins, commands, takes, gives_up}
use Rattle.rx_cellar.specs.declared.shapes.Command.{Command}
use Rattle.rx_cellar.specs.declared.shapes.Answer.{Answer}
use Rattle.rx_cellar.specs.declared.shapes.Effect.{Effect}
use Rattle.rx_cellar.specs.declared.asked.Asked.{Asked}
use Rattle.rx_cellar.specs.declared.asked.Asked.TheVariants.{Using, Hold}
use Rattle.rx_cellar.specs.Asking.{asked_of}
use Rattle.rx_cellar.specs.Cellars.{most}
use Rattle.rx_cellar.specs.Crossings.{what_code, what_of, effect_of}
use Rattle.rx_turns.specs.declared.agenda.Turn.{Turn}
use Rattle.rx_turns.specs.declared.agenda.Task.{Task}
use Rattle.rx_turns.specs.Agendas.{in_hand}
use Rattle.rx_turns.specs.States.{TurnState}
use Rattle.rx_turns.specs.Calls.{TurnStep, IsTurnStep, IsTurnPass, IsTurnStop}

-- what is seen of a course of the engine: a tag was handed in; an effect of this lane was told; one came back to it
pub data Seen : Type 0 where
  handed_in : (tag : ℕ) → Seen
  was_told : LaneName → Effect → Seen
  came_back : LaneName → Effect → Seen

abbrev pub seen_tag : {g : Ghosts Token} {s t : State} → IsCommand g s t → List Seen
seen_tag (has_held node tag by done) = handed_in tag ∷ []
seen_tag (has_used at kind user tag by alone done) = handed_in tag ∷ []
seen_tag _ = []

abbrev pub seen_told : LaneName → Option Sent → List Seen
seen_told name None = []
seen_told name (Some sent) = was_told name (effect_of sent) ∷ []

abbrev pub seen_back : LaneName → (is_left : Option Bool) → Option Sent → List Seen
seen_back name None _ = []
seen_back name (Some left) None = []
seen_back name (Some left) (Some sent) = came_back name (effect_of sent) ∷ []

abbrev pub seen_of : {g : Ghosts Token} {s t : State} → Course g s t → List Seen
seen_of begins = []
seen_of (commands before kept command) = seen_of before ++ seen_tag command
seen_of (takes {answer = answer} name inside by before kept taken) = seen_of before ++ seen_told name answer
seen_of (gives_up {answer = answer} name by undone before kept given) = seen_of before ++ seen_back name answer undone

-- there is one of which this is seen
pub record IsEngineCourse (g : Ghosts Token) (s t : State) (acts : List Seen) : Type 0 where
  pub course : Course g s t
  pub acts_are : seen_of course ≡ acts

-- the tag of a command that hands one in, where it was done
abbrev pub tag_asked : Option Asked → List Seen
tag_asked (Some (Using at user tag)) = handed_in tag ∷ []
tag_asked (Some (Hold node tag)) = handed_in tag ∷ []
tag_asked _ = []

abbrev pub tag_done : Option Command → (status : ℕ) → List Seen
tag_done None status = []
tag_done (Some c) status = if status == 0 then tag_asked (asked_of c) else []

-- a turn has in hand what it had, under the same ticket, and what is not begun was not begun
pub record WasInHand (s : TurnState) (turn : Turn) (h : Task) : Type 0 where
  pub before : Task
  pub was : in_hand s.agenda turn ≡ Some before
  pub ticket : before.ticket ≡ h.ticket
  pub effect : before.effect ≡ h.effect
  pub fresh : h.is_begun ≡ false → before ≡ h

-- all that is in hand was, but what was handed out
abbrev pub HandsFrom : TurnState → TurnState → (handed : Option Task) → Type 0
HandsFrom s t handed = (turn : Turn) (h : Task) → in_hand t.agenda turn ≡ Some h → WasInHand s turn h ⊎ (handed ≡ Some h)

-- what a step hands out is what it takes, alone, under the next ticket; or it takes nothing, and hands out what was in hand and not begun
pub data IsHandedOf (s t : TurnState) : Option Task → List Seen → Type 0 where
  hands_none : t.tickets ≡ s.tickets → IsHandedOf s t None []
  hands_new : (lane : LaneName) (h : Task) → h.ticket ≡ min (s.tickets + 1) most → t.tickets ≡ h.ticket → IsHandedOf s t (Some h) (was_told lane h.effect ∷ [])
  hands_old : (turn : Turn) (h : Task) → in_hand s.agenda turn ≡ Some h → h.is_begun ≡ false → t.tickets ≡ s.tickets → IsHandedOf s t (Some h) []

pub record IsStepCourse (g : Ghosts Token) (tags : List Seen) (s t : TurnState) (handed : Option Task) : Type 0 where
  pub told : List Seen
  pub course : IsEngineCourse g s.cellar.engine t.cellar.engine (tags ++ told)
  pub handed_so : IsHandedOf s t handed told
  pub hands : HandsFrom s t handed

-- an effect as the engine has it back: its kind says whether it carries a value
abbrev pub as_back : Effect → What → Effect
as_back e what = record { user = e.user; value = e.value; by = e.by; kind = what_code what; carries = if carries what then 1 else 0 }

-- what comes back was in hand and not begun
pub data AreBack (s : TurnState) : List Seen → Type 0 where
  none_back : AreBack s []
  one_back : (lane : LaneName) (turn : Turn) (h : Task) (what : What) (acts : List Seen) → in_hand s.agenda turn ≡ Some h → h.is_begun ≡ false →
      what_of h.effect.kind ≡ Some what → AreBack s acts → AreBack s (came_back lane (as_back h.effect what) ∷ acts)

-- nothing is told
pub record IsEndCourse (g : Ghosts Token) (s t : TurnState) : Type 0 where
  pub back : List Seen
  pub course : IsEngineCourse g s.cellar.engine t.cellar.engine back
  pub back_so : AreBack s back
  pub tickets : t.tickets ≡ s.tickets
  pub hands : HandsFrom s t None

-- Refinement: a step takes what it hands out, or hands it out again; a pass and a stop tell nothing, and give back only what was not begun
pub record CallsAreCourses (g : Ghosts Token) : Type 0 where
  pub steps : (turn : Turn) (begun : ℕ) (c : Option Command) (s t : TurnState) (a b : Answer) (step : TurnStep) → IsTurnStep g turn begun c s t a b step →
      IsStepCourse g (tag_done c step.status) s t step.handed
  pub passes : (turn : Turn) (begun from : ℕ) (now_is : Bool) (s t : TurnState) → IsTurnPass turn begun from now_is s t → IsEndCourse g s t
  pub stops : (turn : Turn) (begun : ℕ) (s t : TurnState) → IsTurnStop turn begun s t → IsEndCourse g s t
