-- Effects that are put into their lanes, the roles that name them, and lanes that are left.
use Rattle.std.specs.Prelude.{◌≡◌, ℕ, Bool, true, false, ◌-◌, ◌<◌, Option, Some, None, List, [], ◌∷◌, ⊤, if◌then◌else◌}
use Rattle.rx_lanes.specs.declared.names.LaneName.{LaneName}
use Rattle.rx_lanes.specs.Lane.{Lane, put, freed, parted, joined, kept}
use Rattle.rx_lanes.specs.State.{State, lane, Gets, Turns, KeepsLanes, due_of}
use Rattle.rx_roles.specs.declared.roles.Role.{Role}
use Rattle.rx_roles.specs.declared.effect.Effect.{Effect}
use Rattle.rx_roles.specs.Effects.{is_last, is_release, lasts_at}

-- how many name a lane; of one that was let go none
abbrev pub many_of : Option (Lane Effect) → ℕ
many_of None = 0
many_of (Some l) = l.many

abbrev pub many_at : State Effect → LaneName → ℕ
many_at s name = many_of (lane s name)

-- one more names a lane that is open
pub record Joins (s t : State Effect) (name : LaneName) : Type 0 where
  pub before : Lane Effect
  pub found : lane s name ≡ Some before
  pub joins : Turns s t name (Some (joined before))

-- a release goes before the rest where its caller serves the lane, all else behind
abbrev pub put_by : ℕ → Effect → Lane Effect → Lane Effect
put_by by e l = if is_release e.what then freed by e l else put e l

-- behind a last effect its role names the lane no more
abbrev pub PartsIf : (last : Bool) → LaneName → Lane Effect → (s t : State Effect) → Type 0
PartsIf true name l s t = Turns s t name (kept (parted l))
PartsIf false name l s t = t ≡ s

-- an effect is put into its lane, and with the last of a role that goes
pub record Arrives (by : ℕ) (e : Effect) (l : Lane Effect) (s t : State Effect) : Type 0 where
  pub between : State Effect
  pub gets : Gets s between e.lane (put_by by e l)
  pub parts : PartsIf (is_last e.what) e.lane (put_by by e l) between t

-- from these lanes, one effect after another was put into its lane, which was found; nothing else changed but room
pub data Delivers (by : ℕ) : State Effect → List Effect → State Effect → Type 0 where
  none_delivered : {s t : State Effect} → KeepsLanes s t → Delivers by s [] t
  one_delivered : {s t u : State Effect} {es : List Effect} (e : Effect) (l : Lane Effect) → lane s e.lane ≡ Some l →
      Arrives by e l s t →
      Delivers by t es u → Delivers by s (e ∷ es) u

-- from these lanes, that of each of these roles was left, one after another: one fewer names it, and it is let go where
-- it is needed no more
pub data Leaves : State Effect → List Role → State Effect → Type 0 where
  none_left : {s t : State Effect} → KeepsLanes s t → Leaves s [] t
  one_left : {s t u : State Effect} {rs : List Role} (r : Role) (l : Lane Effect) → lane s r.lane ≡ Some l →
      Turns s t r.lane (kept (parted l)) →
      Leaves t rs u → Leaves s (r ∷ rs) u

-- what the end of a command makes of the lanes: those that got something are due
abbrev pub settled : ℕ → State Effect → State Effect
settled by s = record s { fresh = []; due = due_of by s.places s.fresh }

-- how many name a lane, less the last effects of these
abbrev pub less : (LaneName → ℕ) → List Effect → LaneName → ℕ
less many es = λ name. many name - lasts_at name es

-- each effect, in its turn, goes to a lane that a role still names
abbrev pub AreNamed : (LaneName → ℕ) → List Effect → Type 0
AreNamed many [] = ⊤
AreNamed many (e ∷ es) = (0 < many e.lane) × AreNamed (less many (e ∷ [])) es
