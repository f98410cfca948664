-- The value of a command: it comes back as often as the command's answer counted it.
use Rattle.std.specs.Prelude.{◌≡◌, ℕ, ◌+◌, ◌==◌, ◌&&◌, Bool, if◌then◌else◌}
use Rattle.rx_resource.specs.declared.Resource.{Ghosts}
use Rattle.rx_resource.specs.declared.token.Token.{Token}
use Rattle.rx_roles.specs.declared.effect.Effect.{Effect}
use Rattle.rx_roles.specs.Effects.{carries}
use Rattle.rx_engine.specs.States.{State}
use Rattle.rx_courses.specs.Courses.{IsCommand, is_refused, has_made_hubs, has_checkpointed, Course, begins, commands, takes, gives_up, all_effects}
use Rattle.rx_courses.specs.Tellings.{counted}
use Rattle.rx_courses.specs.NotesTold.{value_of}

-- an effect carries this value
abbrev pub is_carrying : ℕ → Effect → Bool
is_carrying value e = carries e.what && e.value == value

-- how many effects carry a command's value, by its answer
abbrev pub copies_of : {g : Ghosts Token} {s t : State} → IsCommand g s t → ℕ
copies_of (is_refused seen) = 0
copies_of (has_made_hubs by makes) = 0
copies_of (has_checkpointed made) = 0
copies_of {t = t} _ = t.parts.copies

-- by the answers of all commands with this value
abbrev pub all_copies_of : {g : Ghosts Token} {s t : State} → ℕ → Course g s t → ℕ
all_copies_of value begins = 0
all_copies_of value (commands before kept command) = all_copies_of value before + (if value_of command == value then
    copies_of command else 0)
all_copies_of value (takes name inside by before kept taken) = all_copies_of value before
all_copies_of value (gives_up name by _ before kept given) = all_copies_of value before

-- values: as many effects that carry a value were put into lanes as the answers of its commands counted
abbrev pub ValuesOnce : Ghosts Token → Type 0
ValuesOnce g = (value : ℕ) (s t : State) (course : Course g s t) →
    counted (is_carrying value) (all_effects course) ≡ all_copies_of value course
