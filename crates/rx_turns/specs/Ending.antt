-- A turn that goes on no more: its lane is given up, and nothing is due to it.
use Rattle.std.specs.Prelude.{◌≡◌, ℕ, ◌==◌, ◌||◌, ◌⊎◌, Bool, true, false, List, [], ◌∷◌, Option, Some, None, is_some, if◌then◌else◌}
use Rattle.rx_slots.specs.Lists.{head_of, is_in, list_at}
use Rattle.rx_engine.specs.States.{IsPromised}
use Rattle.rx_cellar.specs.declared.shapes.Effect.{Effect}
use Rattle.rx_cellar.specs.declared.cellar.Cellar.{Cellar}
use Rattle.rx_cellar.specs.Serving.{IsGivenUp}
use Rattle.rx_cellar.specs.Words.{is_inside, place_in}
use Rattle.rx_turns.specs.declared.agenda.Turn.{Turn}
use Rattle.rx_turns.specs.declared.agenda.Task.{Task}
use Rattle.rx_turns.specs.Rows.{is_deeper}
use Rattle.rx_turns.specs.Agendas.{DueLists, due_to, in_hand, IsDueToNobody, IsEmptied}
use Rattle.rx_turns.specs.States.{TurnState}
use Rattle.rx_turns.specs.Serving.{Drops}
use Rattle.rx_turns.specs.Making.{IsMadeDue}

-- what was not begun comes back
abbrev pub untold_of : Task → List Effect
untold_of h = if h.is_begun then [] else h.effect ∷ []

abbrev pub left_under : (word is_left : ℕ) → Option ℕ
left_under word is_left = if is_left == 1 then Some word else None

-- its lane is given up, and tells whether something is left
pub record GivesBack (by : ℕ) (h : Task) (s t : Cellar) (is_left : ℕ) : Type 0 where
  pub status : ℕ
  pub given : IsGivenUp h.word by (untold_of h) s t is_left status

-- a turn lets go of the lane that it serves, which is given up: what was not begun stands first there again. Of a lane that its stack serves
-- further out, there is nothing to give up, and what was not begun stays in hand. Answers the word under which something may be left
pub data LetsLaneGo (turn : Turn) (s t : TurnState) : Option ℕ → Type 0 where
  holds_none : in_hand s.agenda turn ≡ None → t ≡ s → LetsLaneGo turn s t None
  stays_in_hand : (h : Task) → in_hand s.agenda turn ≡ Some h → is_inside h.word ≡ true → h.is_begun ≡ false → t ≡ s → LetsLaneGo turn s t None
  lets_inner_go : (h : Task) → in_hand s.agenda turn ≡ Some h → is_inside h.word ≡ true → h.is_begun ≡ true → Drops turn s t → LetsLaneGo turn s t (Some h.word)
  gives_lane_up : (h : Task) (u : TurnState) (v : Cellar) (is_left : ℕ) → in_hand s.agenda turn ≡ Some h → is_inside h.word ≡ false →
      Drops turn s u → IsPromised s.cellar.engine → GivesBack turn.by h s.cellar v is_left → t ≡ record u { cellar = v } →
      LetsLaneGo turn s t (left_under h.word is_left)

-- from the first place on something may be astray
abbrev pub astray_if : Bool → Option ℕ → Option ℕ
astray_if true astray = Some 0
astray_if false astray = astray

-- all that a turn had is nobody's; what is left is astray
pub record EndsTurn (turn : Turn) (s t : TurnState) : Type 0 where
  pub between : TurnState
  pub left : Option ℕ
  pub lets_go : LetsLaneGo turn s between left
  pub emptied : IsEmptied turn between.agenda t.agenda
  pub only : t ≡ record between {
    agenda = t.agenda;
    astray = astray_if (is_some left || is_some (head_of (due_to between.agenda turn))) between.astray;
  }

-- nothing is due to it, and it has nothing in hand but what stays there
pub record TurnIsOver (a : DueLists) (turn : Turn) : Type 0 where
  pub due : due_to a turn ≡ []
  pub hand : (h : Task) → in_hand a turn ≡ Some h → (is_inside h.word ≡ true) × (h.is_begun ≡ false)

-- each call deeper on the same stack ends
pub data StopsDeeper (turn : Turn) (t : TurnState) : TurnState → Type 0 where
  all_ended : ((u : Turn) → is_deeper turn u ≡ true → TurnIsOver t.agenda u) → StopsDeeper turn t t
  one_ended : (s v : TurnState) (u : Turn) → is_deeper turn u ≡ true → EndsTurn u s v → StopsDeeper turn t v → StopsDeeper turn t s

-- what is left under a word is due to a turn; but of a lane that its stack serves further out, nothing more where the whole lane is due already
pub data LeavesWord (word : ℕ) (turn : Turn) (s t : TurnState) : Type 0 where
  is_claimed : (is_inside word ≡ false) ⊎ IsDueToNobody s.agenda (place_in word) → IsMadeDue turn word s t → LeavesWord word turn s t
  stays_due : (e : ℕ) → is_inside word ≡ true → is_in (place_in word) (list_at s.agenda.lists e) ≡ true → t ≡ s → LeavesWord word turn s t

-- what is left is due to a turn
abbrev pub LeavesTo : Option ℕ → Turn → TurnState → TurnState → Type 0
LeavesTo None turn s t = t ≡ s
LeavesTo (Some word) turn s t = LeavesWord word turn s t

-- the call of this depth on the same stack
abbrev pub at_depth : Turn → (depth : ℕ) → Turn
at_depth turn depth = record turn { depth = depth }
