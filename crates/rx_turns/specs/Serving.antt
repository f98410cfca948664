-- What a turn is handed next: of the lane that it serves, or else of the first lane that has something among those due to it.
use Rattle.std.specs.Prelude.{◌≡◌, ℕ, ◌+◌, min, true, false, List, [], ◌∷◌, Option, Some, None}
use Rattle.rx_engine.specs.States.{IsPromised}
use Rattle.rx_cellar.specs.declared.shapes.Effect.{Effect}
use Rattle.rx_cellar.specs.declared.cellar.Cellar.{Cellar}
use Rattle.rx_cellar.specs.Cellars.{most}
use Rattle.rx_cellar.specs.Serving.{IsTaken}
use Rattle.rx_turns.specs.declared.agenda.Turn.{Turn}
use Rattle.rx_turns.specs.declared.agenda.Task.{Task}
use Rattle.rx_turns.specs.Rows.{is_deeper}
use Rattle.rx_turns.specs.Agendas.{due_to, in_hand, lane_word, HasNothing, Holds, IsDueNoMore}
use Rattle.rx_turns.specs.States.{TurnState}

-- an effect of a lane, under the ticket behind the last one
abbrev pub new_hand : (tickets word : ℕ) → Effect → Task
new_hand tickets word effect = record { effect = effect; ticket = min (tickets + 1) most; word = word; is_begun = false }

-- a turn has it in hand
pub record HandsOut (turn : Turn) (word : ℕ) (effect : Effect) (s t : TurnState) (h : Task) : Type 0 where
  pub is_new : h ≡ new_hand s.tickets word effect
  pub holds : Holds turn (Some h) s.agenda t.agenda
  pub only : t ≡ record s { agenda = t.agenda; tickets = h.ticket }

-- a lane is asked by a turn, which has in hand then what that gives
pub data AsksLane (turn : Turn) (word : ℕ) (s t : TurnState) : Option Task → Type 0 where
  gives_one : (v : Cellar) (e : Effect) (h : Task) → IsPromised s.cellar.engine → IsTaken word turn.by s.cellar v (Some e) →
      HandsOut turn word e (record s { cellar = v }) t h → AsksLane turn word s t (Some h)
  gives_none : (v : Cellar) → IsPromised s.cellar.engine → IsTaken word turn.by s.cellar v None → t ≡ record s { cellar = v } → AsksLane turn word s t None

pub record TakesOff (place : ℕ) (s t : TurnState) : Type 0 where
  pub gone : IsDueNoMore place s.agenda t.agenda
  pub only : t ≡ record s { agenda = t.agenda }

pub record Drops (turn : Turn) (s t : TurnState) : Type 0 where
  pub holds : Holds turn None s.agenda t.agenda
  pub only : t ≡ record s { agenda = t.agenda }

-- lanes that are due are asked in order, and are due no more, until one gives something; or none does
pub data TakesDue (turn : Turn) (b : TurnState) : TurnState → Option Task → Type 0 where
  nothing_due : due_to b.agenda turn ≡ [] → TakesDue turn b b None
  has_one : (a c : TurnState) (place : ℕ) (places : List ℕ) (h : Task) → due_to a.agenda turn ≡ place ∷ places → TakesOff place a c →
      AsksLane turn (lane_word a.agenda place) c b (Some h) → TakesDue turn b a (Some h)
  has_none : (a c d : TurnState) (place : ℕ) (places : List ℕ) (answer : Option Task) → due_to a.agenda turn ≡ place ∷ places → TakesOff place a c →
      AsksLane turn (lane_word a.agenda place) c d None → TakesDue turn b d answer → TakesDue turn b a answer

-- what was not begun is handed out again; else the lane that is served is asked first, and where it has nothing more, or there is none, those
-- that are due
pub data Serves (turn : Turn) (b : TurnState) : TurnState → Option Task → Type 0 where
  hands_again : (h : Task) → in_hand b.agenda turn ≡ Some h → h.is_begun ≡ false → Serves turn b b (Some h)
  goes_on : (a : TurnState) (h g : Task) → in_hand a.agenda turn ≡ Some h → h.is_begun ≡ true → AsksLane turn h.word a b (Some g) → Serves turn b a (Some g)
  ends_lane : (a c d : TurnState) (h : Task) (answer : Option Task) → in_hand a.agenda turn ≡ Some h → h.is_begun ≡ true →
      AsksLane turn h.word a c None → Drops turn c d → TakesDue turn b d answer → Serves turn b a answer
  serves_none : (a : TurnState) (answer : Option Task) → in_hand a.agenda turn ≡ None → TakesDue turn b a answer → Serves turn b a answer

-- the calls deeper on the same stack are served, where each stands, until one is handed something; or none has anything any more
pub data ServesDeeper (turn : Turn) (b : TurnState) : TurnState → Option Task → Type 0 where
  none_deeper : ((u : Turn) → is_deeper turn u ≡ true → HasNothing b.agenda u) → ServesDeeper turn b b None
  deeper_has_one : (a : TurnState) (u : Turn) (h : Task) → is_deeper turn u ≡ true → Serves u b a (Some h) → ServesDeeper turn b a (Some h)
  deeper_has_none : (a c : TurnState) (u : Turn) (answer : Option Task) → is_deeper turn u ≡ true → Serves u c a None → ServesDeeper turn b c answer →
      ServesDeeper turn b a answer
