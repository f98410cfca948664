-- What a call tells, ends and sets free, as effects.
use Rattle.std.specs.Prelude.{◌≡◌, ◌==◌, ◌&&◌, ⊤, is_some, ℕ, ◌+◌, ◌-◌, Bool, true, false, Option, Some, None, option_map, List, [], ◌∷◌, ◌++◌, if◌then◌else◌, vec_len, vec_capacity}
use Rattle.std.specs.Option.{option_to_list}
use Rattle.rx_note.specs.declared.note.Terminal.{Terminal}
use Rattle.rx_note.specs.declared.note.Terminal.TheVariants.{Completed as Completes, Error}
use Rattle.rx_note.specs.declared.note.Note.{Note}
use Rattle.rx_note.specs.declared.note.Note.TheVariants.{Next as NextNote, Project as ProjectNote, End}
use Rattle.rx_note.specs.Notes.{is_end}
use Rattle.rx_event.specs.declared.mail.Mail.{Mail}
use Rattle.rx_roles.specs.declared.roles.Role.{Role}
use Rattle.rx_roles.specs.declared.effect.What.{What}
use Rattle.rx_roles.specs.declared.effect.What.TheVariants.{Next, Project, Completed, Failed, Gone, Merged, Release, Put}
use Rattle.rx_roles.specs.declared.effect.Effect.{Effect}
use Rattle.rx_roles.specs.declared.effect.Effects.TheInside.{Inside}
use Rattle.rx_lanes.specs.declared.names.LaneName.{LaneName}
use Rattle.rx_lanes.specs.Courses.{is_name}
use Rattle.rx_roles.specs.Roles.{role_of, without}

-- effects in order, and for how many more there is room
pub record Store : Type 0 where
  pub list : List Effect
  pub room : ℕ

abbrev pub store_of : Inside → Store
store_of a = record { list = a.list.items; room = vec_capacity a.list - vec_len a.list }

-- one effect --------------------------------------------------------------------------------------

-- it carries the value of its call
abbrev pub carries : What → Bool
carries Next = true
carries Project = true
carries Failed = true
carries Put = true
carries _ = false

-- it is an item, to be told or to be projected
abbrev pub is_item : What → Bool
is_item Next = true
is_item Project = true
is_item _ = false

-- the only effect, where that is an item
abbrev pub only_item : List Effect → Option Effect
only_item [] = None
only_item (e ∷ []) = if is_item e.what then Some e else None
only_item (e ∷ (f ∷ es)) = None

-- for who has this role, of a call of this caller with this value
abbrev pub effect_for : (by value : ℕ) → What → Role → Effect
effect_for by value what r = record { lane = r.lane; user = r.word; value = if carries what then value else 0; by = by; what = what }

-- where there is such a role
abbrev pub effects_for : (by value : ℕ) → What → Option Role → List Effect
effects_for by value what role = option_to_list (option_map (effect_for by value what) role)

-- notes -------------------------------------------------------------------------------------------

abbrev pub end_told : Terminal → What
end_told Completes = Completed
end_told (Error code) = Failed

abbrev pub what_told : Note → What
what_told (NextNote item) = Next
what_told (ProjectNote item) = Project
what_told (End terminal) = end_told terminal

-- the role that a note goes to: an item to be projected to who projects, all else to who hears
abbrev pub role_told : (hears merges : List Role) → Note → ℕ → Option Role
role_told hears merges (NextNote item) n = role_of hears n
role_told hears merges (ProjectNote item) n = role_of merges n
role_told hears merges (End terminal) n = role_of hears n

-- of one that has an item
abbrev pub role_of_item : (hears merges : List Role) → Mail → Option Role
role_of_item hears merges m = if is_end m.note then None else role_told hears merges m.note m.to

-- one note
abbrev pub told : (by value : ℕ) → (hears merges : List Role) → Mail → List Effect
told by value hears merges m = effects_for by value (what_told m.note) (role_told hears merges m.note m.to)

-- who hears is told an end last
abbrev pub after : List Role → Mail → List Role
after hears m = if is_end m.note then without hears m.to else hears

-- all notes, in order, and who hears behind them
abbrev pub all_told : (by value : ℕ) → (hears merges : List Role) → List Mail → List Effect
all_told by value hears merges [] = []
all_told by value hears merges (m ∷ ms) = told by value hears merges m ++ all_told by value (after hears m) merges ms

abbrev pub after_all : List Role → List Mail → List Role
after_all hears [] = hears
after_all hears (m ∷ ms) = after_all (after hears m) ms

-- each of them has a role to go to, in its turn
abbrev pub AllListened : (hears merges : List Role) → List Mail → Type 0
AllListened hears merges [] = ⊤
AllListened hears merges (m ∷ ms) = (is_some (role_told hears merges m.note m.to) ≡ true) × AllListened (after hears m) merges ms

-- how many of them are no ends
abbrev pub items_in : List Mail → ℕ
items_in [] = 0
items_in (m ∷ ms) = (if is_end m.note then 0 else 1) + items_in ms

-- who is told an end
abbrev pub ends_of : List Mail → List ℕ
ends_of [] = []
ends_of (m ∷ ms) = if is_end m.note then m.to ∷ ends_of ms else ends_of ms

-- closings ----------------------------------------------------------------------------------------

-- the last effects of a node that was closed: who still hears is gone, and nothing more is projected
abbrev pub last_of : (by : ℕ) → (hears merges : List Role) → ℕ → List Effect
last_of by hears merges n = effects_for by 0 Gone (role_of hears n) ++ effects_for by 0 Merged (role_of merges n)

-- of all that were closed, in order
abbrev pub all_last : (by : ℕ) → (hears merges : List Role) → List ℕ → List Effect
all_last by hears merges [] = []
all_last by hears merges (n ∷ ns) = last_of by hears merges n ++ all_last by (without hears n) (without merges n) ns

-- releases ----------------------------------------------------------------------------------------

abbrev pub released : (by : ℕ) → (holds : List Role) → ℕ → List Effect
released by holds r = effects_for by 0 Release (role_of holds r)

-- last effects ------------------------------------------------------------------------------------

-- it is the last for its role
abbrev pub is_last : What → Bool
is_last Next = false
is_last Project = false
is_last Put = false
is_last _ = true

-- how many of the effects are
abbrev pub lasts : List Effect → ℕ
lasts [] = 0
lasts (e ∷ es) = (if is_last e.what then 1 else 0) + lasts es

-- releases ----------------------------------------------------------------------------------------

abbrev pub is_release : What → Bool
is_release Release = true
is_release _ = false

-- how many releases of this tag there are, and how many roles with this word
abbrev pub tagged : ℕ → List Effect → ℕ
tagged tag [] = 0
tagged tag (e ∷ es) = (if (is_release e.what && e.user == tag) then 1 else 0) + tagged tag es

abbrev pub words_of : ℕ → List Role → ℕ
words_of tag [] = 0
words_of tag (r ∷ rs) = (if r.word == tag then 1 else 0) + words_of tag rs

-- how many last effects there are for this word
abbrev pub finals : ℕ → List Effect → ℕ
finals word [] = 0
finals word (e ∷ es) = (if (is_last e.what && e.user == word) then 1 else 0) + finals word es

-- values ------------------------------------------------------------------------------------------

-- how many of the effects carry the value of their call
abbrev pub copies_in : List Effect → ℕ
copies_in [] = 0
copies_in (e ∷ es) = (if carries e.what then 1 else 0) + copies_in es

-- lanes -------------------------------------------------------------------------------------------

-- how many roles name a lane, and how many last effects go there
abbrev pub names_of : LaneName → List Role → ℕ
names_of name [] = 0
names_of name (r ∷ rs) = (if is_name r.lane name then 1 else 0) + names_of name rs

abbrev pub lasts_at : LaneName → List Effect → ℕ
lasts_at name [] = 0
lasts_at name (e ∷ es) = (if (is_last e.what && is_name e.lane name) then 1 else 0) + lasts_at name es
