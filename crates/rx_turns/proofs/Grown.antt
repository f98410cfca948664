-- A line more, which is blank.
use Rattle.std.proofs.Common.{◌≡◌, ◌≢◌, ℕ, ◌+◌, ◌<◌, ◌≤◌, ◌==◌, Bool, true, false, cond, List, [], ◌∷◌, ◌++◌, length, refl, ap, sym, ◌∙◌, arith, ◌⊎◌, inl}
use Rattle.std.proofs.Common.{inr, length-append}
use Rattle.std.specs.Prelude.{slice_index_or}
use Rattle.std.proofs.lemmas.List.Folds.{position_or_len_push}
use Rattle.std.proofs.lemmas.List.{get_or_push, get_or_past, get_or_append_left}
use Rattle.std.proofs.lemmas.Bool.{cases_eq, cases_lt, eqb-true}
use Rattle.rx_slots.specs.Lists.{Lists, list_at}
use Rattle.rx_turns.specs.declared.agenda.Turn.{Turn}
use Rattle.rx_turns.specs.declared.agenda.Row.{Row}
use Rattle.rx_turns.specs.Rows.{is_of, blank, row_on, own_line, HaveOneRowEach, due_on, hand_on, Grows, AreListed, AreNoDeeper}

pushed_by : {X : Type 0} (xs : List X) (d : X) (k : ℕ) → (k < length xs) ⊎ (length xs ≤ k) → (k ≡ length xs) ⊎ (k ≢ length xs) →
    slice_index_or (xs ++ d ∷ []) k d ≡ slice_index_or xs k d
pushed_by xs d k (inl within) _ = get_or_append_left xs (d ∷ []) d k within
pushed_by xs d k (inr past) (inl last) = get_or_push xs d d k (sym last) ∙ sym (get_or_past xs k d past)
pushed_by xs d k (inr past) (inr behind) =
    get_or_past (xs ++ d ∷ []) k d (omega (arith, past, behind, length-append xs (d ∷ []))) ∙ sym (get_or_past xs k d past)

-- what is read behind a list is there now
pub read_pushed : {X : Type 0} (xs : List X) (d : X) (k : ℕ) → slice_index_or (xs ++ d ∷ []) k d ≡ slice_index_or xs k d
read_pushed xs d k = pushed_by xs d k (cases_lt k (length xs)) (cases_eq k (length xs))

pub many_pushed : {X : Type 0} (xs : List X) (d : X) → length (xs ++ d ∷ []) ≡ length xs + 1
many_pushed xs d = length-append xs (d ∷ [])

-- what is due on each list stays, and there is a list for the line
module _ (rows : List Row) (lists lists' : Lists) (listed : AreListed rows lists) (lists_same : (e : ℕ) → list_at lists' e ≡ list_at lists e)
    (fits : length rows < length lists'.lists) (members : lists'.members ≡ lists.members) (apart : HaveOneRowEach rows) where
  abbrev grown : List Row
  grown = rows ++ blank ∷ []

  of_same : (t : Turn) (k : ℕ) → is_of t (row_on grown k) ≡ is_of t (row_on rows k)
  of_same t k = ap (is_of t) (read_pushed rows blank k)

  pub record TellsSame (t : Turn) : Type 0 where
    pub due : due_on grown lists' t ≡ due_on rows lists t
    pub hands : hand_on grown t ≡ hand_on rows t

  same_by : (t : Turn) (b : Bool) → (own_line t rows == length rows) ≡ b → TellsSame t
  same_by t true is =
      let old : own_line t rows ≡ length rows = eqb-true (own_line t rows) (length rows) is in
      let new : own_line t grown ≡ length rows + 1 = position_or_len_push (is_of t) rows blank ∙ ap (λ b. cond b (length rows + 1) (own_line t rows)) is in
      record {
        due = lists_same (own_line t grown)
            ∙ (ap (list_at lists) new
            ∙ (listed.idle (length rows + 1) (omega arith) ∙ (sym (listed.idle (length rows) (omega arith)) ∙ sym (ap (list_at lists) old))));
        hands = ap (λ (r : Row). r.in_hand) (read_pushed rows blank (own_line t grown))
            ∙ (ap (λ k. (row_on rows k).in_hand) new
            ∙ (ap (λ (r : Row). r.in_hand) (get_or_past rows (length rows + 1) blank (omega arith))
            ∙ (sym (ap (λ (r : Row). r.in_hand) (get_or_past rows (length rows) blank (omega arith)))
            ∙ sym (ap (λ k. (row_on rows k).in_hand) old))));
      }
  same_by t false is =
      let new : own_line t grown ≡ own_line t rows = position_or_len_push (is_of t) rows blank ∙ ap (λ b. cond b (length rows + 1) (own_line t rows)) is in
      record {
        due = lists_same (own_line t grown) ∙ ap (list_at lists) new;
        hands = ap (λ (r : Row). r.in_hand) (read_pushed rows blank (own_line t grown)) ∙ ap (λ k. (row_on rows k).in_hand) new;
      }

  pub grows : Grows rows grown lists lists'
  grows = record {
    read = read_pushed rows blank;
    listed_so = lists_same;
    due = λ t. (same_by t (own_line t rows == length rows) refl).due;
    hands = λ t. (same_by t (own_line t rows == length rows) refl).hands;
    apart = λ t i j at_i at_j. apart t i j (sym (of_same t i) ∙ at_i) (sym (of_same t j) ∙ at_j);
    listed = record {
      fits = omega (arith, fits, many_pushed rows blank);
      idle = λ k past. lists_same k ∙ listed.idle k (omega (arith, past, many_pushed rows blank));
    };
    members = members;
  }

-- none is deeper then
pub depths_grown : (old new : List Row) (lists lists' : Lists) (n : ℕ) → Grows old new lists lists' → AreNoDeeper n old → AreNoDeeper n new
depths_grown old new lists lists' n grows are t k own = are t k (sym (ap (is_of t) (grows.read k)) ∙ own)

-- a list more
pub more_lists : (lists lists' : Lists) → lists'.lists ≡ lists.lists ++ [] ∷ [] → (e : ℕ) → list_at lists' e ≡ list_at lists e
more_lists lists lists' more e = ap (λ xs. slice_index_or xs e []) more ∙ read_pushed lists.lists [] e
