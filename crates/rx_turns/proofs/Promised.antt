-- Whom a serving hands out nothing has nothing, and what it hands out is in hand.
use Rattle.std.proofs.Common.{◌≡◌, ℕ, cond, Option, Some, None, IfSome, refl, ap, ◌∙◌}
use Rattle.rx_turns.specs.declared.agenda.Turn.{Turn}
use Rattle.rx_turns.specs.declared.agenda.Task.{Task}
use Rattle.rx_turns.specs.Agendas.{in_hand, HasNothing}
use Rattle.rx_turns.specs.States.{TurnState}
use Rattle.rx_turns.specs.Serving.{AsksLane, gives_one, gives_none, TakesDue, nothing_due, has_one, has_none, Serves, hands_again, goes_on, ends_lane}
use Rattle.rx_turns.specs.Serving.{serves_none}
use Rattle.rx_turns.proofs.Lines.{is_same-self}

-- a lane that gives nothing leaves the hand as it was
asked_hand : (turn : Turn) (word : ℕ) (s t : TurnState) (answer : Option Task) → answer ≡ None → AsksLane turn word s t answer →
    in_hand t.agenda turn ≡ in_hand s.agenda turn
asked_hand turn word s t _ is (gives_one v e h kept taken out) = absurd (cc)
asked_hand turn word s t _ is (gives_none v kept taken same) = ap (λ (x : TurnState). in_hand x.agenda turn) same

pub due_ended : (turn : Turn) (b a : TurnState) (answer : Option Task) → answer ≡ None → in_hand a.agenda turn ≡ None → TakesDue turn b a answer →
    HasNothing b.agenda turn
due_ended turn b _ _ is hand (nothing_due none) = (none, hand)
due_ended turn b _ _ is hand (has_one a c place places h due gone asks) = absurd (cc)
due_ended turn b _ _ is hand (has_none a c d place places answer due gone asks rest) =
    due_ended turn b d answer is (asked_hand turn _ c d None refl asks ∙ (gone.gone.hands turn ∙ hand)) rest

nothing_by : (turn : Turn) (b a : TurnState) (answer : Option Task) → answer ≡ None → Serves turn b a answer → HasNothing b.agenda turn
nothing_by turn b _ _ is (hands_again h hand fresh) = absurd (cc)
nothing_by turn b _ _ is (goes_on a h g hand begun asks) = absurd (cc)
nothing_by turn b _ _ is (ends_lane a c d h answer hand begun asks drops rest) =
    due_ended turn b d answer is (drops.holds.hands turn ∙ ap (λ v. cond v None (in_hand c.agenda turn)) (is_same-self turn)) rest
nothing_by turn b _ _ is (serves_none a answer hand rest) = due_ended turn b a answer is hand rest

pub nothing_left : (turn : Turn) (s t : TurnState) → Serves turn t s None → HasNothing t.agenda turn
nothing_left turn s t serves = nothing_by turn t s None refl serves

asked_held : (turn : Turn) (word : ℕ) (s t : TurnState) (answer : Option Task) → AsksLane turn word s t answer →
    IfSome answer (λ h. in_hand t.agenda turn ≡ Some h)
asked_held turn word s t _ (gives_one v e h kept taken out) =
    out.holds.hands turn ∙ ap (λ b. cond b (Some h) (in_hand s.agenda turn)) (is_same-self turn)
asked_held turn word s t _ (gives_none v kept taken same) = tt

pub due_held : (turn : Turn) (b a : TurnState) (answer : Option Task) → TakesDue turn b a answer → IfSome answer (λ h. in_hand b.agenda turn ≡ Some h)
due_held turn b _ _ (nothing_due none) = tt
due_held turn b _ _ (has_one a c place places h due gone asks) = asked_held turn _ c b (Some h) asks
due_held turn b _ _ (has_none a c d place places answer due gone asks rest) = due_held turn b d answer rest

-- what is handed out is in hand
pub served_held : (turn : Turn) (b a : TurnState) (answer : Option Task) → Serves turn b a answer → IfSome answer (λ h. in_hand b.agenda turn ≡ Some h)
served_held turn b _ _ (hands_again h hand fresh) = hand
served_held turn b _ _ (goes_on a h g hand begun asks) = asked_held turn _ a b (Some g) asks
served_held turn b _ _ (ends_lane a c d h answer hand begun asks drops rest) = due_held turn b d answer rest
served_held turn b _ _ (serves_none a answer hand rest) = due_held turn b a answer rest
