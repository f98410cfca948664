-- A turn that has a line serves another lane.
use Rattle.std.proofs.Common.{◌≡◌, ◌≢◌, ℕ, ◌<◌, ◌==◌, Bool, true, false, cond, List, length, Option, Some, refl, ap, sym, ◌∙◌, ◌⊎◌, inl, inr, arith}
use Rattle.std.specs.Prelude.{slice_set}
use Rattle.std.proofs.lemmas.List.Folds.{position_or_len-set}
use Rattle.std.proofs.lemmas.List.{get_or-set_same, get_or-set_other, length-set}
use Rattle.std.proofs.lemmas.Bool.{cases_eq, false≢true, eqb-true, eq-eqb}
use Rattle.rx_slots.specs.Lists.{Lists, list_at}
use Rattle.rx_turns.specs.declared.agenda.Turn.{Turn}
use Rattle.rx_turns.specs.declared.agenda.Task.{Task}
use Rattle.rx_turns.specs.declared.agenda.Row.{Row}
use Rattle.rx_turns.specs.Rows.{is_same, is_of, blank, row_on, own_line, HaveOneRowEach, AreNoDeeper, IsOn}
use Rattle.rx_turns.specs.declared.agenda.OnLine.{OnLine}
use Rattle.rx_turns.specs.Agendas.{DueLists, in_hand, hand_at, Holds}
use Rattle.rx_turns.proofs.Lines.{line_tells, is_same-self}

abbrev pub with_hand : List Row → ℕ → Option Task → List Row
with_hand rows line hand = slice_set rows line (record (row_on rows line) { in_hand = hand })

-- nobody's line moves
pub line_held : (rows : List Row) (line : ℕ) (hand : Option Task) (t : Turn) → own_line t (with_hand rows line hand) ≡ own_line t rows
line_held rows line hand t = position_or_len-set (is_of t) rows line (record (row_on rows line) { in_hand = hand }) blank refl

row_held : (rows : List Row) (line k : ℕ) (hand : Option Task) → line < length rows → (b : Bool) → (line == k) ≡ b →
    (row_on (with_hand rows line hand) k).in_hand ≡ cond b hand (row_on rows k).in_hand
row_held rows line k hand within true is =
    ap (λ (n : ℕ). (row_on (with_hand rows line hand) n).in_hand) (sym (eqb-true line k is))
    ∙ ap (λ (r : Row). r.in_hand) (get_or-set_same rows line (record (row_on rows line) { in_hand = hand }) blank within)
row_held rows line k hand within false is =
    ap (λ (r : Row). r.in_hand)
    (get_or-set_other rows line k (record (row_on rows line) { in_hand = hand }) blank (λ same. false≢true (sym is ∙ eq-eqb line k (sym same))))

pub held : (turn : Turn) (hand : Option Task) (line : ℕ) (rows : List Row) (lists : Lists) (words : List ℕ) → line ≡ own_line turn rows → line < length rows →
    Holds turn hand (record { rows = rows; lists = lists; words = words }) (record { rows = with_hand rows line hand; lists = lists; words = words })
held turn hand line rows lists words is within = record {
  due = λ t. ap (list_at lists) (line_held rows line hand t);
  hands = λ t.
      ap (λ k. (row_on (with_hand rows line hand) k).in_hand) (line_held rows line hand t)
      ∙ row_held rows line (own_line t rows) hand within (is_same turn t) (line_tells turn t rows line is within (is_same turn t) refl);
  words = λ p. refl;
  places_are = refl;
}

same_row : (rows : List Row) (line : ℕ) (hand : Option Task) (t : Turn) (k : ℕ) → line < length rows → (k ≡ line) ⊎ (k ≢ line) →
    is_of t (row_on (with_hand rows line hand) k) ≡ is_of t (row_on rows k)
same_row rows line hand t k within (inl at_line) =
    ap (λ (n : ℕ). is_of t (row_on (with_hand rows line hand) n)) at_line
    ∙ (ap (is_of t) (get_or-set_same rows line (record (row_on rows line) { in_hand = hand }) blank within)
    ∙ ap (λ (n : ℕ). is_of t (row_on rows n)) (sym at_line))
same_row rows line hand t k within (inr apart) = ap (is_of t) (get_or-set_other rows line k (record (row_on rows line) { in_hand = hand }) blank apart)

pub depths_held : (n line : ℕ) (hand : Option Task) (rows : List Row) → line < length rows → AreNoDeeper n rows → AreNoDeeper n (with_hand rows line hand)
depths_held n line hand rows within are t k own = are t k (sym (same_row rows line hand t k within (cases_eq k line)) ∙ own)

pub apart_held : (rows : List Row) (line : ℕ) (hand : Option Task) → line < length rows → HaveOneRowEach rows → HaveOneRowEach (with_hand rows line hand)
apart_held rows line hand within apart t i j at_i at_j =
    apart t i j (sym (same_row rows line hand t i within (cases_eq i line)) ∙ at_i) (sym (same_row rows line hand t j within (cases_eq j line)) ∙ at_j)

-- its line stays, and what it holds is in hand there
pub on_held : {on : OnLine} {rows : List Row} (hand : Option Task) → IsOn on rows → IsOn on (with_hand rows on.line hand)
on_held {on} {rows} hand is = record {
  line = is.line ∙ sym (line_held rows on.line hand on.turn);
  within = let within = is.within in let many = length-set rows on.line (record (row_on rows on.line) { in_hand = hand }) in omega (arith, within, many);
}

pub hand_held : (on : OnLine) (a b : DueLists) (h : Task) → IsOn on b.rows → Holds on.turn (Some h) a b → hand_at b (Some on.line) ≡ Some h
hand_held on a b h is holds =
    ap (λ (k : ℕ). (row_on b.rows k).in_hand) is.line
    ∙ (holds.hands on.turn ∙ ap (λ (same : Bool). cond same (Some h) (in_hand a on.turn)) (is_same-self on.turn))
