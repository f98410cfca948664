-- The lanes that are due to a turn are forgotten, one after another.
use Rattle.std.proofs.Common.{◌≡◌, ℕ, Bool, true, false, cond, [], Some, None, refl, ap, sym, ◌∙◌}
use Rattle.rx_slots.specs.Lists.{head_of}
use Rattle.rx_turns.specs.declared.agenda.Turn.{Turn}
use Rattle.rx_turns.specs.Rows.{is_same}
use Rattle.rx_turns.specs.Agendas.{DueLists, due_to, in_hand, lane_word, lanes_fit, IsDueNoMore, IsEmptied, IsDueOnce}
use Rattle.rx_turns.proofs.Lines.{same_turn}
use Rattle.rx_turns.proofs.TakenOut.{begins_with, empty_head, take_out-absent, not_others}

-- so far nothing else changed
pub record LessIsDue (turn : Turn) (a b : DueLists) : Type 0 where
  pub others : (t : Turn) → is_same turn t ≡ false → due_to b t ≡ due_to a t
  pub hands : (t : Turn) → in_hand b t ≡ in_hand a t
  pub words : (p : ℕ) → lane_word b p ≡ lane_word a p
  pub places_are : lanes_fit b ≡ lanes_fit a

pub as_due : (turn : Turn) (a : DueLists) → LessIsDue turn a a
as_due turn a = record { others = λ t other. refl; hands = λ t. refl; words = λ p. refl; places_are = refl }

pub one_less : (turn : Turn) (a b c : DueLists) (place : ℕ) → LessIsDue turn a b → Some place ≡ head_of (due_to b turn) → IsDueOnce b → IsDueNoMore place b c →
    LessIsDue turn a c
one_less turn a b c place so first once gone =
    let begins = begins_with place (due_to b turn) first in
    record {
      others = λ t other.
          gone.due t ∙ (take_out-absent place (due_to b t) (not_others turn t b place begins.rest once other begins.is) ∙ so.others t other);
      hands = λ t. gone.hands t ∙ so.hands t;
      words = λ p. gone.words p ∙ so.words p;
      places_are = gone.places_are ∙ so.places_are;
    }

due_by : (turn t : Turn) (a b : DueLists) → LessIsDue turn a b → due_to b turn ≡ [] → (s : Bool) → is_same turn t ≡ s → due_to b t ≡ cond s [] (due_to a t)
due_by turn t a b so none true same = ap (λ (v : Turn). due_to b v) (sym (same_turn turn t same)) ∙ none
due_by turn t a b so none false other = so.others t other

-- where nothing is left
pub emptied : (turn : Turn) (a b : DueLists) → LessIsDue turn a b → None ≡ head_of (due_to b turn) → IsEmptied turn a b
emptied turn a b so none = record {
  due = λ t. due_by turn t a b so (empty_head (due_to b turn) none) (is_same turn t) refl;
  hands = so.hands;
  words = so.words;
  places_are = so.places_are;
}
