-- What the numbers and structs stand for that cross.
use Rattle.std.specs.Prelude.{ℕ, ◌==◌, Option, Some, None, option_map, if◌then◌else◌}
use Rattle.rx_lanes.specs.declared.names.LaneName.{LaneName}
use Rattle.rx_roles.specs.Effects.{carries}
use Rattle.rx_roles.specs.declared.effect.Effect.{Effect as Sent}
use Rattle.rx_roles.specs.declared.effect.What.{What}
use Rattle.rx_roles.specs.declared.effect.What.TheVariants.{Next, Project, Completed, Failed, Gone, Release, Put, Merged}
use Rattle.rx_cellar.specs.declared.shapes.Effect.{Effect}
use Rattle.rx_cellar.specs.declared.shapes.Answer.{Answer}

-- the number of what is to be done
abbrev pub what_code : What → ℕ
what_code Next = 0
what_code Project = 1
what_code Completed = 2
what_code Failed = 3
what_code Gone = 4
what_code Release = 5
what_code Put = 6
what_code Merged = 7

abbrev pub what_of : ℕ → Option What
what_of code = if code == 0 then Some Next else if code == 1 then Some Project else if code == 2 then Some Completed else if code == 3 then Some Failed
    else if code == 4 then Some Gone else if code == 5 then Some Release else if code == 6 then Some Put else if code == 7 then Some Merged else None

-- an effect as it crosses, without its lane
abbrev pub effect_of : Sent → Effect
effect_of s = record { user = s.user; value = s.value; by = s.by; kind = what_code s.what; carries = if carries s.what then 1 else 0 }

-- and as it comes back to a lane, where its kind is one
abbrev pub inner_of : LaneName → Effect → Option Sent
inner_of lane e = option_map (λ what. record { lane = lane; user = e.user; value = e.value; by = e.by; what = what }) (what_of e.kind)

-- nothing was done: the counts of a command are 0, and the rest stays as it was
abbrev pub no_answer : Answer → Answer
no_answer a = record a { is_connected = 0; copies = 0; closed = 0 }
