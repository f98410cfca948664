-- Serving a lane by its word: taking, giving up, finding what is left; and what an answer has not.
use Rattle.std.specs.Prelude.{◌≡◌, ℕ, ◌+◌, ◌-◌, ◌<◌, ◌≤◌, ◌^◌, min, Bool, List, [], ◌∷◌, length, map, drop, Option, Some, None, option_map, if◌then◌else◌}
use Rattle.std.specs.Option.{option_and_then}
use Rattle.rx_lanes.specs.declared.names.LaneName.{LaneName}
use Rattle.rx_lanes.specs.State.{IsLeft}
use Rattle.rx_roles.specs.declared.effect.Effect.{Effect as Sent}
use Rattle.rx_engine.specs.declared.homes.LaneOf.TheVariants.{Node}
use Rattle.rx_engine.specs.Homes.{lane_of}
use Rattle.rx_engine.specs.Servings.{IsTake, IsGiveUp}
use Rattle.rx_cellar.specs.Codes.{key_of}
use Rattle.rx_cellar.specs.declared.shapes.NumberedKey.{NumberedKey}
use Rattle.rx_cellar.specs.declared.shapes.Effect.{Effect}
use Rattle.rx_cellar.specs.declared.cellar.Cellar.{Cellar}
use Rattle.rx_cellar.specs.Crossings.{effect_of, inner_of, what_of}
use Rattle.rx_cellar.specs.Words.{named, is_inside, word_of, word_of_due}
use Rattle.rx_cellar.specs.Cellars.{most, counted_if, uncounted, filled}

-- what the engine gives of this lane crosses, by which its release is told
pub record Takes (name : LaneName) (inside : Bool) (by : ℕ) (s t : Cellar) (answer : Option Effect) : Type 0 where
  pub given : Option Sent
  pub take : IsTake name inside by s.engine t.engine given
  pub counts : t ≡ record s { engine = t.engine; released = counted_if given s.released }
  pub is_shown : answer ≡ option_map effect_of given

abbrev pub IsTakenIf : Option LaneName → (inside : Bool) → (by : ℕ) → Cellar → Cellar → Option Effect → Type 0
IsTakenIf None inside by s t answer = (t ≡ s) × (answer ≡ None)
IsTakenIf (Some name) inside by s t answer = Takes name inside by s t answer

-- a word that names no lane takes nothing
abbrev pub IsTaken : (word by : ℕ) → Cellar → Cellar → Option Effect → Type 0
IsTaken word by s t answer = IsTakenIf (named s.engine.parts.lanes word) (is_inside word) by s t answer

-- what comes back: nothing, or one effect of a kind that is one
abbrev pub undone_in : List Effect → Option (Option Effect)
undone_in [] = Some None
undone_in (e ∷ []) = option_map (λ _. Some e) (what_of e.kind)
undone_in (e ∷ f ∷ es) = None

abbrev pub sent_of : LaneName → Option Effect → Option Sent
sent_of name undone = option_and_then (inner_of name) undone

abbrev pub left_number : Option Bool → ℕ
left_number None = 0
left_number (Some left) = if left then 1 else 0

abbrev pub given_up_status : Option Bool → ℕ
given_up_status None = 17
given_up_status (Some left) = 0

-- a release that was taken back is not told
abbrev pub uncounted_if : Option Sent → ℕ → ℕ
uncounted_if None n = n
uncounted_if (Some sent) n = uncounted sent.what n

abbrev pub uncounted_where : Option Bool → Option Sent → ℕ → ℕ
uncounted_where None sent n = n
uncounted_where (Some left) sent n = uncounted_if sent n

pub record Gives (name : LaneName) (by : ℕ) (sent : Option Sent) (s t : Cellar) (is_left status : ℕ) : Type 0 where
  pub answer : Option Bool
  pub give : IsGiveUp name by sent s.engine t.engine answer
  pub counts : t ≡ record s { engine = t.engine; released = uncounted_where answer sent s.released }
  pub left_is : is_left ≡ left_number answer
  pub status_is : status ≡ given_up_status answer

abbrev pub GivesBackIf : Option LaneName → (by : ℕ) → Option Effect → Cellar → Cellar → (is_left status : ℕ) → Type 0
GivesBackIf None by back s t is_left status = (t ≡ s) × (is_left ≡ 0) × (status ≡ 17)
GivesBackIf (Some name) by back s t is_left status = Gives name by (sent_of name back) s t is_left status

abbrev pub IsGivenUpIf : Option (Option Effect) → (word by : ℕ) → Cellar → Cellar → (is_left status : ℕ) → Type 0
IsGivenUpIf None word by s t is_left status = (t ≡ s) × (is_left ≡ 0) × (status ≡ 5)
IsGivenUpIf (Some back) word by s t is_left status = GivesBackIf (named s.engine.parts.lanes word) by back s t is_left status

-- more than one effect, or one of no kind, does not come back; then a word that names no lane gives nothing up
abbrev pub IsGivenUp : (word by : ℕ) → List Effect → Cellar → Cellar → (is_left status : ℕ) → Type 0
IsGivenUp word by untold s t is_left status = IsGivenUpIf (undone_in untold) word by s t is_left status

-- the first lane from this place on that has something and that nobody serves; or there is none
pub data IsLeftTold (from : ℕ) (s : Cellar) : ℕ → ℕ → Type 0 where
  one_left : (name : LaneName) → IsLeft s.engine.parts.lanes name → from ≤ name.place →
      ((other : LaneName) → IsLeft s.engine.parts.lanes other → from ≤ other.place → name.place ≤ other.place) → IsLeftTold from s (word_of name) (min (name.place + 1) most)
  none_left : ((other : LaneName) → IsLeft s.engine.parts.lanes other → other.place < from) → IsLeftTold from s (2 ^ 64 - 1) from

-- the front of the words is the list from one on, as far as they go
pub record IsRestOf (xs : List ℕ) (from : ℕ) (old new : List ℕ) (count status : ℕ) : Type 0 where
  pub count_is : count ≡ min (length old) (length xs - from)
  pub words_are : new ≡ filled (drop from xs) old
  pub done : status ≡ 0

-- the word of the lane of a node, where that is open
abbrev pub node_word : Cellar → NumberedKey → Option ℕ
node_word s node = option_map word_of (lane_of s.engine (Node (key_of node)))

-- the words of the lanes that the last accepted command's caller is to serve
abbrev pub words_due : Cellar → List ℕ
words_due s = map word_of_due s.engine.parts.lanes.due
