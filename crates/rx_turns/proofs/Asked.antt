-- Lanes that are due are asked one after another.
use Rattle.std.proofs.Common.{◌≡◌, ℕ, false, Option, Some, None, is_some, refl, ap}
use Rattle.rx_slots.specs.Lists.{head_of}
use Rattle.rx_turns.specs.declared.agenda.Turn.{Turn}
use Rattle.rx_turns.specs.declared.agenda.Task.{Task}
use Rattle.rx_turns.specs.Agendas.{due_to, lane_word}
use Rattle.rx_turns.specs.States.{TurnState}
use Rattle.rx_turns.specs.Serving.{AsksLane, gives_one, gives_none, TakesOff, TakesDue, has_one, has_none}
use Rattle.rx_turns.proofs.TakenOut.{begins_with}

-- the first gives something
pub asked_one : (turn : Turn) (a c b : TurnState) (place : ℕ) (h : Task) → Some place ≡ head_of (due_to a.agenda turn) → TakesOff place a c →
    AsksLane turn (lane_word a.agenda place) c b (Some h) → TakesDue turn b a (Some h)
asked_one turn a c b place h first gone asks =
    let begins = begins_with place (due_to a.agenda turn) first in
    has_one a c place begins.rest h begins.is gone asks

-- or nothing
pub asked_none : (turn : Turn) (a c d b : TurnState) (place : ℕ) (answer : Option Task) → Some place ≡ head_of (due_to a.agenda turn) → TakesOff place a c →
    AsksLane turn (lane_word a.agenda place) c d None → TakesDue turn b d answer → TakesDue turn b a answer
asked_none turn a c d b place answer first gone asks rest =
    let begins = begins_with place (due_to a.agenda turn) first in
    has_none a c d place begins.rest answer begins.is gone asks rest

-- who asks leaves what is due as it is
pub asked_due : (turn : Turn) (word : ℕ) (s t : TurnState) (answer : Option Task) → AsksLane turn word s t answer → (u : Turn) →
    due_to t.agenda u ≡ due_to s.agenda u
asked_due turn word s t _ (gives_one v e h kept taken out) u = out.holds.due u
asked_due turn word s t _ (gives_none v kept taken same) u = ap (λ (x : TurnState). due_to x.agenda u) same

-- nothing is in hand, by a test
pub is_none_of : (o : Option Task) → is_some o ≡ false → o ≡ None
is_none_of None is = refl
is_none_of (Some h) is = absurd (cc)
