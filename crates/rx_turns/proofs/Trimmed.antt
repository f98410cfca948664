-- A last line on which nothing is due and nothing is served is taken off.
use Rattle.std.proofs.Common.{◌≡◌, ℕ, ◌+◌, ◌-◌, ◌<◌, ◌≤◌, ◌==◌, Bool, true, false, cond, List, [], ◌∷◌, ◌++◌, length, Option, Some, None, option_to_list, is_some, append-nil, refl, ap, sym, subst, ◌∙◌, arith, ◌⊎◌, inl, inr}
use Rattle.std.proofs.Math.Bool.{not}
use Rattle.std.proofs.lemmas.List.Folds.{position_or_len_push}
use Rattle.std.proofs.lemmas.List.Sums.{prefix_len-le-length}
use Rattle.std.proofs.lemmas.List.{get_or_past, get_or_push, get_or_append_left}
use Rattle.std.proofs.lemmas.Bool.{cases_lt, eqb-true, eq-eqb, false≢true}
use Rattle.rx_slots.specs.Lists.{Lists, list_at}
use Rattle.rx_turns.specs.declared.agenda.Turn.{Turn}
use Rattle.rx_turns.specs.declared.agenda.Row.{Row}
use Rattle.rx_turns.specs.Rows.{is_of, is_fresh, blank, row_on, own_line, HaveOneRowEach, due_on, hand_on, AreListed, AreNoDeeper, TellsAlike}
use Rattle.rx_turns.specs.declared.agenda.Task.{Task}
use Rattle.rx_turns.specs.Rows.{begun_by}
use Rattle.rx_turns.specs.Agendas.{NotesBegun}
use Rattle.rx_turns.proofs.Grown.{many_pushed}

module _ (rows : List Row) (row : Row) (lists : Lists) (listed : AreListed (rows ++ row ∷ []) lists) (apart : HaveOneRowEach (rows ++ row ∷ []))
    (nothing_served : row.in_hand ≡ None) (nothing_due : list_at lists (length rows) ≡ []) where
  abbrev whole : List Row
  whole = rows ++ row ∷ []

  many : length whole ≡ length rows + 1
  many = many_pushed rows row

  idle : (k : ℕ) → (k ≡ length rows) ⊎ (length rows < k) → list_at lists k ≡ []
  idle k (inl last) = ap (list_at lists) last ∙ nothing_due
  idle k (inr behind) = listed.idle k (omega (arith, behind, many))

  blank_at : (k : ℕ) → (k ≡ length rows) ⊎ (length rows < k) → (row_on whole k).in_hand ≡ None
  blank_at k (inl last) = ap (λ (r : Row). r.in_hand) (get_or_push rows row blank k (sym last)) ∙ nothing_served
  blank_at k (inr behind) = ap (λ (r : Row). r.in_hand) (get_or_past whole k blank (omega (arith, behind, many)))

  behind_by : (t : Turn) (p : Bool) → own_line t whole ≡ length rows + cond p 0 1 → (own_line t whole ≡ length rows) ⊎ (length rows < own_line t whole)
  behind_by t true is = inl (omega (arith, is))
  behind_by t false is = inr (omega (arith, is))

  at_most : (t : Turn) → own_line t rows ≤ length rows
  at_most t = prefix_len-le-length (λ r. not (is_of t r)) rows

  pub record TellsSame (t : Turn) : Type 0 where
    pub due : due_on rows lists t ≡ due_on whole lists t
    pub hands : hand_on rows t ≡ hand_on whole t

  same_by : (t : Turn) (b : Bool) → (own_line t rows == length rows) ≡ b → TellsSame t
  same_by t true is =
      let now : own_line t rows ≡ length rows = eqb-true (own_line t rows) (length rows) is in
      let was : own_line t whole ≡ length rows + cond (is_of t row) 0 1 =
      position_or_len_push (is_of t) rows row ∙ ap (λ b. cond b (length rows + cond (is_of t row) 0 1) (own_line t rows)) is in
      let at = behind_by t (is_of t row) was in
      record {
        due = ap (list_at lists) now ∙ (nothing_due ∙ sym (idle (own_line t whole) at));
        hands = ap (λ (r : Row). r.in_hand) (get_or_past rows (own_line t rows) blank (omega (arith, now))) ∙ sym (blank_at (own_line t whole) at);
      }
  same_by t false is =
      let same : own_line t whole ≡ own_line t rows =
      position_or_len_push (is_of t) rows row ∙ ap (λ b. cond b (length rows + cond (is_of t row) 0 1) (own_line t rows)) is in
      record {
        due = ap (list_at lists) (sym same);
        hands = ap (λ (r : Row). r.in_hand) (sym (kept_by (own_line t rows) (cases_lt (own_line t rows) (length rows)) is (at_most t)))
            ∙ ap (λ k. (row_on whole k).in_hand) (sym same);
      }
    where
      kept_by : (k : ℕ) → (k < length rows) ⊎ (length rows ≤ k) → (k == length rows) ≡ false → k ≤ length rows → row_on whole k ≡ row_on rows k
      kept_by k (inl within) other at_most = get_or_append_left rows (row ∷ []) blank k within
      kept_by k (inr past) other at_most = absurd (false≢true (sym other ∙ eq-eqb k (length rows) (omega (arith, past, at_most))))

  of_kept : (t : Turn) (k : ℕ) → is_of t (row_on rows k) ≡ true → (k < length rows) ⊎ (length rows ≤ k) → is_of t (row_on whole k) ≡ true
  of_kept t k own (inl within) = ap (is_of t) (get_or_append_left rows (row ∷ []) blank k within) ∙ own
  of_kept t k own (inr past) = absurd (false≢true (sym (ap (is_of t) (get_or_past rows k blank past)) ∙ own))

  pub depths_trimmed : (n : ℕ) → AreNoDeeper n whole → AreNoDeeper n rows
  depths_trimmed n are t k own = are t k (of_kept t k own (cases_lt k (length rows)))

  pub trimmed : TellsAlike whole rows lists lists
  trimmed = record {
    due = λ t. (same_by t (own_line t rows == length rows) refl).due;
    hands = λ t. (same_by t (own_line t rows == length rows) refl).hands;
    apart = λ t i j at_i at_j. apart t i j (of_kept t i at_i (cases_lt i (length rows))) (of_kept t j at_j (cases_lt j (length rows)));
    listed = record {
      fits = let fits = listed.fits in omega (arith, fits, many);
      idle = λ k past. idle k (split_at k past (cases_lt (length rows) k));
    };
    members = refl;
    begun = λ n are k before. settled_by k (are k before) (cases_lt k (length rows));
  }
    where
      settled_by : (k : ℕ) → is_fresh (row_on whole k) ≡ false → (k < length rows) ⊎ (length rows ≤ k) → is_fresh (row_on rows k) ≡ false
      settled_by k was (inl within) = ap is_fresh (sym (get_or_append_left rows (row ∷ []) blank k within)) ∙ was
      settled_by k was (inr past) = ap is_fresh (get_or_past rows k blank past)

      split_at : (k : ℕ) → length rows ≤ k → (length rows < k) ⊎ (k ≤ length rows) → (k ≡ length rows) ⊎ (length rows < k)
      split_at k past (inl behind) = inr behind
      split_at k past (inr at_most) = inl (omega (arith, past, at_most))

pub told_on : (a b c : List Row) (lists : Lists) → TellsAlike a b lists lists → TellsAlike b c lists lists → TellsAlike a c lists lists
told_on a b c lists one two = record {
  due = λ t. two.due t ∙ one.due t;
  hands = λ t. two.hands t ∙ one.hands t;
  apart = two.apart;
  listed = two.listed;
  members = refl;
  begun = λ n are. two.begun n (one.begun n are);
}

pub told_as : (rows : List Row) (lists : Lists) → AreListed rows lists → HaveOneRowEach rows → TellsAlike rows rows lists lists
told_as rows lists listed apart = record { due = λ t. refl; hands = λ t. refl; apart = apart; listed = listed; members = refl; begun = λ n are. are }

-- the last row was popped
pub popped : (whole rows : List Row) (o : Option Row) (lists : Lists) → whole ≡ rows ++ option_to_list o → AreListed whole lists → HaveOneRowEach whole →
    (row_on whole (length whole - 1)).in_hand ≡ None → list_at lists (length whole - 1) ≡ [] → TellsAlike whole rows lists lists
popped whole rows None lists is listed apart served due =
    subst (λ (x : List Row). TellsAlike whole x lists lists) (is ∙ append-nil rows) (told_as whole lists listed apart)
popped whole rows (Some row) lists is listed apart served due =
    let last : length whole - 1 ≡ length rows = omega (arith, ap length is, many_pushed rows row) in
    let there : row_on whole (length whole - 1) ≡ row =
    ap (λ (x : List Row). row_on x (length whole - 1)) is ∙ get_or_push rows row blank (length whole - 1) (sym last) in
    subst (λ (x : List Row). TellsAlike x rows lists lists) (sym is)
    (trimmed rows row lists (subst (λ (x : List Row). AreListed x lists) is listed) (subst HaveOneRowEach is apart)
    (ap (λ (r : Row). r.in_hand) (sym there) ∙ served) (ap (list_at lists) (sym last) ∙ due))

-- and so none is deeper then
pub depths_popped : (whole rows : List Row) (o : Option Row) (lists : Lists) → whole ≡ rows ++ option_to_list o → AreListed whole lists →
    HaveOneRowEach whole → (row_on whole (length whole - 1)).in_hand ≡ None → list_at lists (length whole - 1) ≡ [] → (n : ℕ) → AreNoDeeper n whole →
    AreNoDeeper n rows
depths_popped whole rows None lists is listed apart served due n are = subst (AreNoDeeper n) (is ∙ append-nil rows) are
depths_popped whole rows (Some row) lists is listed apart served due n are =
    let last : length whole - 1 ≡ length rows = omega (arith, ap length is, many_pushed rows row) in
    let there : row_on whole (length whole - 1) ≡ row =
    ap (λ (x : List Row). row_on x (length whole - 1)) is ∙ get_or_push rows row blank (length whole - 1) (sym last) in
    depths_trimmed rows row lists (subst (λ (x : List Row). AreListed x lists) is listed) (subst HaveOneRowEach is apart)
    (ap (λ (r : Row). r.in_hand) (sym there) ∙ served) (ap (list_at lists) (sym last) ∙ due) n (subst (AreNoDeeper n) is are)

pub no_place : (o : Option ℕ) → is_some o ≡ false → o ≡ None
no_place None is = refl
no_place (Some n) is = absurd (cc)

-- what was begun is noted behind that
pub marks_behind : (by ticket : ℕ) (old mid new : List Row) (lists : Lists) (words : List ℕ) → TellsAlike old mid lists lists →
    NotesBegun by ticket (record { rows = mid; lists = lists; words = words }) (record { rows = new; lists = lists; words = words }) →
    NotesBegun by ticket (record { rows = old; lists = lists; words = words }) (record { rows = new; lists = lists; words = words })
marks_behind by ticket old mid new lists words told notes = record {
  due = λ t. notes.due t ∙ told.due t;
  hands = λ t. notes.hands t ∙ ap (λ (h : Option Task). cond (t.by == by) (begun_by ticket h) h) (told.hands t);
  words = notes.words;
  places_are = notes.places_are;
}
