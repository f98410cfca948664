-- What was handed out under a ticket is begun, in each row of a stack.
use Rattle.std.proofs.Common.{◌≡◌, ◌≢◌, ℕ, ◌+◌, ◌<◌, ◌≤◌, ◌==◌, Bool, true, false, cond, List, length, Option, Some, None, refl, ap, sym, ◌∙◌, arith, ◌⊎◌}
use Rattle.std.proofs.Common.{inl, inr}
use Rattle.std.specs.Prelude.{slice_set}
use Rattle.std.proofs.Math.Bool.{not}
use Rattle.std.proofs.lemmas.List.Sums.{position_or_len_is, prefix_len-le-length, passes_at_first, fails_before_first}
use Rattle.std.proofs.lemmas.List.{get_or-set_same, get_or-set_other, get_or_past, length-set}
use Rattle.std.proofs.lemmas.Bool.{cases_eq, cases_lt}
use Rattle.rx_slots.specs.Lists.{Lists, list_at}
use Rattle.rx_turns.specs.declared.agenda.Turn.{Turn}
use Rattle.rx_turns.specs.declared.agenda.Row.{Row}
use Rattle.rx_turns.specs.Rows.{is_its, is_of, is_by, begun_by, with_begun, blank, row_on, own_line, HaveOneRowEach, AreSettled, AreNoDeeper}
use Rattle.rx_turns.specs.Agendas.{NotesBegun}
use Rattle.rx_turns.proofs.Lines.{same_turn}
use Rattle.rx_turns.proofs.Settled.{begun_stays}

-- all rows before a line are marked, and none from there on
pub record AreMarkedTo (by ticket : ℕ) (old new : List Row) (line : ℕ) : Type 0 where
  pub below : (k : ℕ) → k < line → row_on new k ≡ with_begun by ticket (row_on old k)
  pub above : (k : ℕ) → line ≤ k → row_on new k ≡ row_on old k
  pub many : length new ≡ length old

pub none_marked : (by ticket n : ℕ) (all : List Row) → AreSettled n all → AreMarkedTo by ticket all all n
none_marked by ticket n all are =
    record { below = λ k before. sym (begun_stays by ticket (row_on all k) (are k before)); above = λ k behind. refl; many = refl }

module _ (by ticket : ℕ) (old new : List Row) (line : ℕ) (are : AreMarkedTo by ticket old new line) (within : line < length new) where
  below_by : (k : ℕ) → k < line + 1 → (k ≡ line) ⊎ (k ≢ line) → row_on (slice_set new line (with_begun by ticket
      (row_on new line))) k ≡ with_begun by ticket (row_on old k)
  below_by k before (inl at_line) =
      ap (λ n. row_on (slice_set new line (with_begun by ticket (row_on new line))) n) at_line
      ∙ (get_or-set_same new line (with_begun by ticket (row_on new line)) blank within
      ∙ (ap (with_begun by ticket) (are.above line (omega arith)) ∙ ap (λ n. with_begun by ticket (row_on old n)) (sym at_line)))
  below_by k before (inr apart) =
      get_or-set_other new line k (with_begun by ticket (row_on new line)) blank apart ∙ are.below k (omega (arith, before, apart))

  pub next_marked : AreMarkedTo by ticket old (slice_set new line (with_begun by ticket (row_on new line))) (line + 1)
  next_marked = record {
    below = λ k before. below_by k before (cases_eq k line);
    above = λ k behind.
        let apart : k ≢ line = omega (arith, behind) in
        get_or-set_other new line k (with_begun by ticket (row_on new line)) blank apart ∙ are.above k (omega (arith, behind));
    many = length-set new line (with_begun by ticket (row_on new line)) ∙ are.many;
  }

all_by : (by ticket : ℕ) (old new : List Row) (line k : ℕ) → AreMarkedTo by ticket old new line → length old ≤ line → (k < line) ⊎ (line ≤ k) →
    row_on new k ≡ with_begun by ticket (row_on old k)
all_by by ticket old new line k are all (inl before) = are.below k before
all_by by ticket old new line k are all (inr behind) =
    let past : row_on old k ≡ blank = get_or_past old k blank (omega (arith, all, behind)) in
    are.above k behind ∙ (past ∙ ap (with_begun by ticket) (sym past))

-- behind the last line all are
pub all_marked : (by ticket : ℕ) (old new : List Row) (line : ℕ) → AreMarkedTo by ticket old new line → length old ≤ line → (k : ℕ) →
    row_on new k ≡ with_begun by ticket (row_on old k)
all_marked by ticket old new line are all k = all_by by ticket old new line k are all (cases_lt k line)

module _ (by ticket : ℕ) (old new : List Row) (each : (k : ℕ) → row_on new k ≡ with_begun by ticket (row_on old k)) (many : length new ≡ length old) where
  of_same : (t : Turn) (k : ℕ) → is_of t (row_on new k) ≡ is_of t (row_on old k)
  of_same t k = ap (is_of t) (each k)

  -- nobody's line moves
  line_marked : (t : Turn) → own_line t new ≡ own_line t old
  line_marked t =
      let at_most : own_line t old ≤ length old = prefix_len-le-length (λ r. not (is_of t r)) old in
      position_or_len_is (is_of t) new (own_line t old) blank (omega (arith, at_most, many)) (λ k before. of_same t k
      ∙ fails_before_first (is_of t) old k blank before)
      (λ within. of_same t (own_line t old) ∙ passes_at_first (is_of t) old blank (omega (arith, within, many)))

  pub apart_marked : HaveOneRowEach old → HaveOneRowEach new
  apart_marked apart t i j at_i at_j = apart t i j (sym (of_same t i) ∙ at_i) (sym (of_same t j) ∙ at_j)

  pub depths_marked : (n : ℕ) → AreNoDeeper n old → AreNoDeeper n new
  depths_marked n are t k own = are t k (sym (of_same t k) ∙ own)

  by_its : (t : Turn) (o : Option Turn) → is_its t o ≡ true → is_by by o ≡ (t.by == by)
  by_its t None own = absurd (cc)
  by_its t (Some u) own = ap (λ (v : Turn). v.by == by) (sym (same_turn t u own))

  nothing_begun : (b : Bool) → cond b (begun_by ticket None) None ≡ None
  nothing_begun true = refl
  nothing_begun false = refl

  hand_by : (t : Turn) → (own_line t old < length old) ⊎ (length old ≤ own_line t old) →
      (with_begun by ticket (row_on old (own_line t old))).in_hand
      ≡ cond (t.by == by) (begun_by ticket (row_on old (own_line t old)).in_hand) (row_on old (own_line t old)).in_hand
  hand_by t (inl within) =
      ap (λ b. cond b (begun_by ticket (row_on old (own_line t old)).in_hand) (row_on old (own_line t old)).in_hand)
      (by_its t (row_on old (own_line t old)).turn (passes_at_first (is_of t) old blank within))
  hand_by t (inr past) =
      let none : row_on old (own_line t old) ≡ blank = get_or_past old (own_line t old) blank past in
      ap (λ (r : Row). (with_begun by ticket r).in_hand) none
      ∙ (sym (nothing_begun (t.by == by)) ∙ ap (λ (r : Row). cond (t.by == by) (begun_by ticket r.in_hand) r.in_hand) (sym none))

  pub marks_all : (lists : Lists) (words : List ℕ) →
      NotesBegun by ticket (record { rows = old; lists = lists; words = words }) (record { rows = new; lists = lists; words = words })
  marks_all lists words = record {
    due = λ t. ap (list_at lists) (line_marked t);
    hands = λ t.
        ap (λ k. (row_on new k).in_hand) (line_marked t)
        ∙ (ap (λ (r : Row). r.in_hand) (each (own_line t old)) ∙ hand_by t (cases_lt (own_line t old) (length old)));
    words = λ p. refl;
    places_are = refl;
  }
