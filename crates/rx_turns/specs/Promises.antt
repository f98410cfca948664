-- What holds of every step, and of every serving.
use Rattle.std.specs.Prelude.{◌≡◌, ◌≢◌, ℕ, ◌-◌, ◌^◌, ◌⊎◌, true, false, Option, Some, None}
use Rattle.rx_cellar.specs.Serving.{IsLeftTold}
use Rattle.rx_cellar.specs.Words.{place_in}
use Rattle.rx_turns.specs.declared.agenda.Turn.{Turn}
use Rattle.rx_turns.specs.declared.agenda.Task.{Task}
use Rattle.rx_turns.specs.Rows.{is_same, is_deeper}
use Rattle.rx_turns.specs.Agendas.{DueLists, due_to, in_hand, HasNothing, LaneHasRoom, LosesNothing, IsDueOnce}
use Rattle.rx_turns.specs.States.{TurnState}
use Rattle.rx_turns.specs.Serving.{Serves}
use Rattle.rx_turns.specs.Calls.{TurnGoesOn}

-- Where a step hands out nothing, its turn has nothing any more, nor has any deeper call of its stack
abbrev pub NothingIsLeft : Type 0
NothingIsLeft = (turn : Turn) (s t : TurnState) → TurnGoesOn turn t s None → HasNothing t.agenda turn × ((u : Turn) → is_deeper turn u ≡ true →
    HasNothing t.agenda u)

-- a lane is left from the place kept on, for which there was no room
pub record LackedRoom (turn : Turn) (t : TurnState) : Type 0 where
  pub from : ℕ
  pub word : ℕ
  pub next : ℕ
  pub before : DueLists
  pub stays : t.astray ≡ Some from
  pub left : IsLeftTold from t.cellar word next
  pub some : word ≢ 2 ^ 64 - 1
  pub full : LaneHasRoom before turn (place_in word) → ⊥
  pub loses : LosesNothing before t.agenda

-- And at depth 1 nothing is astray any more, but for want of room
abbrev pub NothingIsAstray : Type 0
NothingIsAstray = (turn : Turn) (s t : TurnState) → turn.depth ≡ 1 → TurnGoesOn turn t s None → (t.astray ≡ None) ⊎ LackedRoom turn t

-- What it hands out is in hand then, of its turn or of a deeper call
abbrev pub HoldsWhatItHands : Type 0
HoldsWhatItHands = (turn : Turn) (s t : TurnState) (h : Task) → TurnGoesOn turn t s (Some h) →
    (u : Turn) × ((u ≡ turn) ⊎ (is_deeper turn u ≡ true)) × (in_hand t.agenda u ≡ Some h)

-- another turn has in hand what it had, and is due what was due to it
pub record IsLeftAlone (other : Turn) (a b : DueLists) : Type 0 where
  pub hand : in_hand b other ≡ in_hand a other
  pub due : due_to b other ≡ due_to a other

-- Whoever is served leaves each other turn alone
abbrev pub LeavesOthersAlone : Type 0
LeavesOthersAlone = (turn other : Turn) (s t : TurnState) (answer : Option Task) → IsDueOnce s.agenda → is_same turn other ≡ false →
    Serves turn t s answer → IsLeftAlone other s.agenda t.agenda
