-- Who serves a turn leaves all others alone.
use Rattle.std.proofs.Common.{◌≡◌, ℕ, false, cond, List, ◌∷◌, Option, Some, None, refl, ap, sym, ◌∙◌}
use Rattle.rx_slots.specs.Lists.{is_in}
use Rattle.rx_turns.specs.declared.agenda.Turn.{Turn}
use Rattle.rx_turns.specs.declared.agenda.Task.{Task}
use Rattle.rx_turns.specs.Rows.{is_same}
use Rattle.rx_turns.specs.Agendas.{DueLists, due_to, in_hand, IsDueOnce}
use Rattle.rx_turns.specs.States.{TurnState}
use Rattle.rx_turns.specs.Serving.{AsksLane, gives_one, gives_none, TakesOff, Drops, TakesDue, nothing_due, has_one, has_none}
use Rattle.rx_turns.specs.Serving.{Serves, hands_again, goes_on, ends_lane, serves_none}
use Rattle.rx_turns.specs.Promises.{IsLeftAlone, LeavesOthersAlone}
use Rattle.rx_turns.proofs.Asked.{asked_due}
use Rattle.rx_turns.proofs.TakenOut.{take_out-absent, not_others, once_after}

pub left_alone : (other : Turn) (a : DueLists) → IsLeftAlone other a a
left_alone other a = record { hand = refl; due = refl }

pub alone_on : (other : Turn) (a b c : DueLists) → IsLeftAlone other a b → IsLeftAlone other b c → IsLeftAlone other a c
alone_on other a b c x y = record { hand = y.hand ∙ x.hand; due = y.due ∙ x.due }

once_same : (a c : DueLists) → IsDueOnce a → ((t : Turn) → due_to c t ≡ due_to a t) → IsDueOnce c
once_same a c once same t u m at_t at_u = once t u m (ap (is_in m) (sym (same t)) ∙ at_t) (ap (is_in m) (sym (same u)) ∙ at_u)

asked_alone : (turn other : Turn) (word : ℕ) (s t : TurnState) (answer : Option Task) → is_same turn other ≡ false → AsksLane turn word s t answer →
    IsLeftAlone other s.agenda t.agenda
asked_alone turn other word s t _ apart (gives_one v e h kept taken out) = record {
  hand = out.holds.hands other ∙ ap (λ b. cond b (Some h) (in_hand s.agenda other)) apart;
  due = out.holds.due other;
}
asked_alone turn other word s t _ apart (gives_none v kept taken same) = record {
  hand = ap (λ (x : TurnState). in_hand x.agenda other) same;
  due = ap (λ (x : TurnState). due_to x.agenda other) same;
}

pub dropped_alone : (turn other : Turn) (s t : TurnState) → is_same turn other ≡ false → Drops turn s t → IsLeftAlone other s.agenda t.agenda
dropped_alone turn other s t apart drops = record {
  hand = drops.holds.hands other ∙ ap (λ b. cond b None (in_hand s.agenda other)) apart;
  due = drops.holds.due other;
}

forgot_alone : (turn other : Turn) (s t : TurnState) (place : ℕ) (places : List ℕ) → IsDueOnce s.agenda → is_same turn other ≡ false →
    due_to s.agenda turn ≡ place ∷ places → TakesOff place s t → IsLeftAlone other s.agenda t.agenda
forgot_alone turn other s t place places once apart due gone = record {
  hand = gone.gone.hands other;
  due = gone.gone.due other ∙ take_out-absent place (due_to s.agenda other) (not_others turn other s.agenda place places once apart due);
}

due_alone : (turn other : Turn) (b a : TurnState) (answer : Option Task) → IsDueOnce a.agenda → is_same turn other ≡ false → TakesDue turn b a answer →
    IsLeftAlone other a.agenda b.agenda
due_alone turn other b _ _ once apart (nothing_due none) = left_alone other b.agenda
due_alone turn other b _ _ once apart (has_one a c place places h due gone asks) =
    alone_on other a.agenda c.agenda b.agenda (forgot_alone turn other a c place places once apart due gone) (asked_alone turn other _ c b (Some h) apart asks)
due_alone turn other b _ _ once apart (has_none a c d place places answer due gone asks rest) =
    let still = once_same c.agenda d.agenda (once_after a.agenda c.agenda place once gone.gone.due) (asked_due turn _ c d None asks) in
    alone_on other a.agenda d.agenda b.agenda
    (alone_on other a.agenda c.agenda d.agenda (forgot_alone turn other a c place places once apart due gone) (asked_alone turn other _ c d None apart asks))
    (due_alone turn other b d answer still apart rest)

alone : (turn other : Turn) (b a : TurnState) (answer : Option Task) → IsDueOnce a.agenda → is_same turn other ≡ false → Serves turn b a answer →
    IsLeftAlone other a.agenda b.agenda
alone turn other b _ _ once apart (hands_again h hand fresh) = left_alone other b.agenda
alone turn other b _ _ once apart (goes_on a h g hand begun asks) = asked_alone turn other _ a b (Some g) apart asks
alone turn other b _ _ once apart (ends_lane a c d h answer hand begun asks drops rest) =
    let still = once_same a.agenda d.agenda once (λ t. drops.holds.due t ∙ asked_due turn _ a c None asks t) in
    alone_on other a.agenda d.agenda b.agenda
    (alone_on other a.agenda c.agenda d.agenda (asked_alone turn other _ a c None apart asks) (dropped_alone turn other c d apart drops))
    (due_alone turn other b d answer still apart rest)
alone turn other b _ _ once apart (serves_none a answer hand rest) = due_alone turn other b a answer once apart rest

pub leaves_others_alone : LeavesOthersAlone
leaves_others_alone turn other s t answer once apart serves = alone turn other t s answer once apart serves
