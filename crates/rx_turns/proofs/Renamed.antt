-- A line on which nothing is due and nothing is served is given to a turn that has none.
use Rattle.std.proofs.Common.{◌≡◌, ◌≢◌, ℕ, ◌<◌, ◌≤◌, Bool, true, false, List, [], length, Some, None, refl, ap, sym, ◌∙◌, subst, arith, ◌⊎◌, inl, inr}
use Rattle.std.specs.Prelude.{slice_set}
use Rattle.std.proofs.lemmas.List.Sums.{passes_at_first, fails_before_first}
use Rattle.std.proofs.lemmas.List.Folds.{position_or_len-set}
use Rattle.std.proofs.lemmas.List.{get_or-set_same, get_or-set_other, get_or_past, length-set}
use Rattle.std.proofs.lemmas.Bool.{cases_eq, cases_lt, false_from_ne_true, false≢true}
use Rattle.rx_slots.specs.Lists.{Lists, list_at}
use Rattle.rx_turns.specs.declared.agenda.Turn.{Turn}
use Rattle.rx_turns.specs.declared.agenda.Row.{Row}
use Rattle.rx_turns.specs.Rows.{is_same, is_of, is_fresh, blank, row_on, own_line, HaveOneRowEach, due_on, hand_on, KeepsRows, AreListed, AreSettled, AreNoDeeper}
use Rattle.rx_turns.proofs.Lines.{line_is, line_none, same_turn, is_same-self}

absent_by : (t : Turn) (rows : List Row) → own_line t rows ≡ length rows → (k : ℕ) → (k < length rows) ⊎ (length rows ≤ k) → is_of t (row_on rows k) ≡ false
absent_by t rows none k (inl within) = fails_before_first (is_of t) rows k blank (omega (arith, within, none))
absent_by t rows none k (inr past) = ap (is_of t) (get_or_past rows k blank past)

-- who has no line has no row
pub absent : (t : Turn) (rows : List Row) → own_line t rows ≡ length rows → (k : ℕ) → is_of t (row_on rows k) ≡ false
absent t rows none k = absent_by t rows none k (cases_lt k (length rows))

-- the line is there, and blank; whom it is given to has none
pub record IsFree (rows : List Row) (lists : Lists) (line : ℕ) (u : Turn) : Type 0 where
  pub within : line < length rows
  pub listed : AreListed rows lists
  pub apart : HaveOneRowEach rows
  pub none : own_line u rows ≡ length rows
  pub nothing_due : list_at lists line ≡ []
  pub nothing_served : (row_on rows line).in_hand ≡ None

abbrev pub named_by : Turn → Row
named_by u = record { turn = Some u; in_hand = None }

abbrev pub given : List Row → ℕ → Turn → List Row
given rows line u = slice_set rows line (named_by u)

module _ {rows : List Row} {lists : Lists} {line : ℕ} {u : Turn} (is : IsFree rows lists line u) where
  here : row_on (given rows line u) line ≡ named_by u
  here = get_or-set_same rows line (named_by u) blank is.within

  elsewhere : (k : ℕ) → k ≢ line → row_on (given rows line u) k ≡ row_on rows k
  elsewhere k other = get_or-set_other rows line k (named_by u) blank other

  -- who has the line now is this turn
  is_of_here : (t : Turn) → is_of t (row_on (given rows line u) line) ≡ is_same t u
  is_of_here t = ap (is_of t) here

  is_of_elsewhere : (t : Turn) (k : ℕ) → k ≢ line → is_of t (row_on (given rows line u) k) ≡ is_of t (row_on rows k)
  is_of_elsewhere t k other = ap (is_of t) (elsewhere k other)

  clash : (t : Turn) (k : ℕ) → k ≢ line → is_same t u ≡ true → is_of t (row_on rows k) ≡ true → ⊥
  clash t k other same found =
      false≢true (sym (absent u rows is.none k) ∙ subst (λ (v : Turn). is_of v (row_on rows k) ≡ true) (same_turn t u same) found)

  apart_by : (t : Turn) (i j : ℕ) → is_of t (row_on (given rows line u) i) ≡ true → is_of t (row_on (given rows line u) j) ≡ true →
      (i ≡ line) ⊎ (i ≢ line) → (j ≡ line) ⊎ (j ≢ line) → i ≡ j
  apart_by t i j at_i at_j (inl a) (inl b) = a ∙ sym b
  apart_by t i j at_i at_j (inl a) (inr b) =
      absurd (clash t j b (sym (is_of_here t) ∙ subst (λ (k : ℕ). is_of t (row_on (given rows line u) k) ≡ true) a at_i) (sym (is_of_elsewhere t j b) ∙ at_j))
  apart_by t i j at_i at_j (inr a) (inl b) =
      absurd (clash t i a (sym (is_of_here t) ∙ subst (λ (k : ℕ). is_of t (row_on (given rows line u) k) ≡ true) b at_j) (sym (is_of_elsewhere t i a) ∙ at_i))
  apart_by t i j at_i at_j (inr a) (inr b) = is.apart t i j (sym (is_of_elsewhere t i a) ∙ at_i) (sym (is_of_elsewhere t j b) ∙ at_j)

  pub apart_given : HaveOneRowEach (given rows line u)
  apart_given t i j at_i at_j = apart_by t i j at_i at_j (cases_eq i line) (cases_eq j line)

  many_given : length (given rows line u) ≡ length rows
  many_given = length-set rows line (named_by u)

  -- the turn has the line
  pub line_given : own_line u (given rows line u) ≡ line
  line_given = line_is u (given rows line u) line (omega (arith, is.within, many_given)) apart_given (is_of_here u ∙ is_same-self u)

  -- nothing is due behind all rows, and nothing is served
  past_lists : list_at lists (length rows) ≡ []
  past_lists = is.listed.idle (length rows) (omega arith)

  past_rows : (row_on rows (length rows)).in_hand ≡ None
  past_rows = ap (λ (r : Row). r.in_hand) (get_or_past rows (length rows) blank (omega arith))

  past_given : (row_on (given rows line u) (length rows)).in_hand ≡ None
  past_given = ap (λ (r : Row). r.in_hand) (get_or_past (given rows line u) (length rows) blank (omega (arith, many_given)))

  -- both ask the same
  pub record TellsSame (t : Turn) : Type 0 where
    pub due : due_on (given rows line u) lists t ≡ due_on rows lists t
    pub hands : hand_on (given rows line u) t ≡ hand_on rows t

  tells_at : (t : Turn) (old new : ℕ) → own_line t rows ≡ old → own_line t (given rows line u) ≡ new → list_at lists new ≡ list_at lists old →
      (row_on (given rows line u) new).in_hand ≡ (row_on rows old).in_hand → TellsSame t
  tells_at t old new was now lists_same hands_same = record {
    due = ap (λ k. list_at lists k) now ∙ (lists_same ∙ sym (ap (λ k. list_at lists k) was));
    hands = ap (λ k. (row_on (given rows line u) k).in_hand) now ∙ (hands_same ∙ sym (ap (λ k. (row_on rows k).in_hand) was));
  }

  -- who is given it
  tells_given : TellsSame u
  tells_given = tells_at u (length rows) line is.none line_given (is.nothing_due ∙ sym past_lists) (ap (λ (r : Row). r.in_hand) here ∙ sym past_rows)

  gone_by : (t : Turn) → is_same t u ≡ false → is_of t (row_on rows line) ≡ true → (k : ℕ) → (k ≡ line) ⊎ (k ≢ line) →
      is_of t (row_on (given rows line u) k) ≡ false
  gone_by t other was k (inl at_line) = ap (λ (n : ℕ). is_of t (row_on (given rows line u) n)) at_line ∙ (is_of_here t ∙ other)
  gone_by t other was k (inr apart) = is_of_elsewhere t k apart ∙ false_from_ne_true (is_of t (row_on rows k)) (λ found. apart (is.apart t k line found was))

  -- who had it
  tells_gone : (t : Turn) → is_same t u ≡ false → is_of t (row_on rows line) ≡ true → TellsSame t
  tells_gone t other was =
      tells_at t line (length rows) (line_is t rows line is.within is.apart was)
      (line_none t (given rows line u) (λ k _. gone_by t other was k (cases_eq k line)) ∙ many_given)
      (past_lists ∙ sym is.nothing_due) (past_given ∙ sym is.nothing_served)

  not_there : (t : Turn) → is_of t (row_on rows line) ≡ false → own_line t rows ≢ line
  not_there t was at_line =
      false≢true (sym was ∙ (ap (λ (k : ℕ). is_of t (row_on rows k)) (sym at_line) ∙ passes_at_first (is_of t) rows blank (omega (arith, is.within, at_line))))

  -- and everybody else
  tells_others : (t : Turn) → is_same t u ≡ false → is_of t (row_on rows line) ≡ false → TellsSame t
  tells_others t other was =
      tells_at t (own_line t rows) (own_line t rows) refl (position_or_len-set (is_of t) rows line (named_by u) blank (other ∙ sym was)) refl
      (ap (λ (r : Row). r.in_hand) (elsewhere (own_line t rows) (not_there t was)))

  tells_by : (t : Turn) (a b : Bool) → is_same t u ≡ a → is_of t (row_on rows line) ≡ b → TellsSame t
  tells_by t true b same was = subst TellsSame (sym (same_turn t u same)) tells_given
  tells_by t false true other was = tells_gone t other was
  tells_by t false false other was = tells_others t other was

  -- what was begun is
  settled_given : (n : ℕ) → AreSettled n rows → (k : ℕ) → k < n → (k ≡ line) ⊎ (k ≢ line) → is_fresh (row_on (given rows line u) k) ≡ false
  settled_given n are k before (inl at_line) = ap (λ (m : ℕ). is_fresh (row_on (given rows line u) m)) at_line ∙ ap is_fresh here
  settled_given n are k before (inr other) = ap is_fresh (elsewhere k other) ∙ are k before

  -- and none is deeper than the turn or another
  depth_by : (n : ℕ) → u.depth ≤ n → AreNoDeeper n rows → (t : Turn) (k : ℕ) → is_of t (row_on (given rows line u) k) ≡ true → (k ≡ line) ⊎ (k ≢ line) →
      t.depth ≤ n
  depth_by n fits are t k own (inl at_line) =
      let same = same_turn t u (sym (is_of_here t) ∙ subst (λ (m : ℕ). is_of t (row_on (given rows line u) m) ≡ true) at_line own) in
      subst (λ (v : Turn). v.depth ≤ n) (sym same) fits
  depth_by n fits are t k own (inr other) = are t k (sym (is_of_elsewhere t k other) ∙ own)

  pub depths_given : (n : ℕ) → u.depth ≤ n → AreNoDeeper n rows → AreNoDeeper n (given rows line u)
  depths_given n fits are t k own = depth_by n fits are t k own (cases_eq k line)

  pub kept_given : KeepsRows rows (given rows line u) lists
  kept_given = record {
    due = λ t. (tells_by t (is_same t u) (is_of t (row_on rows line)) refl refl).due;
    hands = λ t. (tells_by t (is_same t u) (is_of t (row_on rows line)) refl refl).hands;
    apart = apart_given;
    many = many_given;
    begun = λ n are k before. settled_given n are k before (cases_eq k line);
  }
