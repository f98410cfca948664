-- Nothing carries the word of a role behind its last effect.
use Rattle.std.specs.Prelude.{◌≡◌, ℕ, ◌+◌, ◌-◌, ◌<◌, ◌==◌, ◌&&◌, ⊤, Bool, true, false, List, [], ◌∷◌, if◌then◌else◌}
use Rattle.std.proofs.Math.Bool.{not}
use Rattle.rx_resource.specs.declared.Resource.{Ghosts}
use Rattle.rx_resource.specs.declared.token.Token.{Token}
use Rattle.rx_roles.specs.declared.effect.Effect.{Effect}
use Rattle.rx_roles.specs.declared.effect.What.{What}
use Rattle.rx_roles.specs.declared.effect.What.TheVariants.{Put}
use Rattle.rx_roles.specs.Effects.{is_last, finals}
use Rattle.rx_engine.specs.States.{State}
use Rattle.rx_courses.specs.Courses.{Course, begins, commands, takes, gives_up, effects_of, all_effects, words_in, given_to, all_given_to}

-- a face put it itself, for no role
abbrev pub is_own : What → Bool
is_own Put = true
is_own _ = false

-- it carries this word, for a role; and whether it is the last of one
abbrev pub is_for : ℕ → Effect → Bool
is_for word e = not (is_own e.what) && e.user == word

abbrev pub ends_one : ℕ → Effect → ℕ
ends_one word e = if (is_last e.what && e.user == word) then 1 else 0

-- with so many roles of this word before them, each that carries it finds one that has not ended
abbrev pub FindRoles : (word many : ℕ) → List Effect → Type 0
FindRoles word many [] = ⊤
FindRoles word many (e ∷ es) = (is_for word e ≡ true → 0 < many) × FindRoles word (many - ends_one word e) es

-- so many are given to it, and have not ended, before the effects of each command
abbrev pub AllFindRoles : {g : Ghosts Token} {s t : State} → ℕ → Course g s t → Type 0
AllFindRoles word begins = ⊤
AllFindRoles word (commands before kept command) = AllFindRoles word before ×
    FindRoles word ((all_given_to word before + given_to word command) - finals word (all_effects before)) (effects_of
    command)
AllFindRoles word (takes name inside by before kept taken) = AllFindRoles word before
AllFindRoles word (gives_up name by _ before kept given) = AllFindRoles word before

-- so of a word that was given to one role nothing comes behind the last effect
abbrev pub NothingBehind : Ghosts Token → Type 0
NothingBehind g = (word : ℕ) (s t : State) → words_in word s.parts ≡ 0 → (course : Course g s t) →
    AllFindRoles word course
