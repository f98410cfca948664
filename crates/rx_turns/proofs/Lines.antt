-- Where the row of a turn stands.
use Rattle.std.proofs.Common.{◌≡◌, ◌≢◌, ℕ, ◌-◌, ◌<◌, ◌≤◌, ◌==◌, ◌&&◌, Bool, true, false, List, length, Option, Some, None, refl, ap, sym, ◌∙◌, arith, ◌⊎◌, inl, inr}
use Rattle.std.proofs.lemmas.List.Sums.{position_or_len_is, passes_at_first}
use Rattle.rx_turns.specs.declared.agenda.Turn.{Turn}
use Rattle.rx_turns.specs.declared.agenda.Row.{Row}
use Rattle.std.proofs.lemmas.Bool.{cases_eq, false_from_ne_true, false≢true, and_parts, eqb-true, eq-eqb}
use Rattle.rx_turns.specs.Rows.{is_same, is_its, is_of, blank, row_on, own_line, HaveOneRowEach, HasLine, IsOn}
use Rattle.rx_turns.specs.declared.agenda.OnLine.{OnLine}

-- a turn is what its word and its depth are
pub same_turn : (t u : Turn) → is_same t u ≡ true → t ≡ u
same_turn t u h =
    let both = and_parts (t.by == u.by) (t.depth == u.depth) h in
    let by : t.by ≡ u.by = eqb-true t.by u.by both.0 in
    let depth : t.depth ≡ u.depth = eqb-true t.depth u.depth both.1 in
    λ i. record { by = by i; depth = depth i }

pub is_same-self : (t : Turn) → is_same t t ≡ true
is_same-self t = ap (λ b. b && (t.depth == t.depth)) (eq-eqb t.by t.by refl) ∙ eq-eqb t.depth t.depth refl

no_other : (t : Turn) (rows : List Row) (i k : ℕ) → HaveOneRowEach rows → is_of t (row_on rows i) ≡ true → k < i → (b : Bool) →
    is_of t (row_on rows k) ≡ b → is_of t (row_on rows k) ≡ false
no_other t rows i k apart here before true is = let same : k ≡ i = apart t k i is here in absurd (omega (arith, before, same))
no_other t rows i k apart here before false is = is

-- no row is of a turn before the one that is
pub line_is : (t : Turn) (rows : List Row) (i : ℕ) → i < length rows → HaveOneRowEach rows → is_of t (row_on rows i) ≡ true → own_line t rows ≡ i
line_is t rows i within apart here =
    position_or_len_is (is_of t) rows i blank (omega (arith, within)) (λ k before. no_other t rows i k apart here before (is_of t (row_on rows k)) refl)
    (λ _. here)

-- none is
pub line_none : (t : Turn) (rows : List Row) → ((k : ℕ) → k < length rows → is_of t (row_on rows k) ≡ false) → own_line t rows ≡ length rows
line_none t rows none = position_or_len_is (is_of t) rows (length rows) blank (omega arith) none (λ h. absurd (omega (arith, h)))

-- a row that is of two turns is of one
named_once : (t u : Turn) (o : Option Turn) → is_its t o ≡ true → is_its u o ≡ true → t ≡ u
named_once t u None at_t at_u = absurd (false≢true at_t)
named_once t u (Some v) at_t at_u = same_turn t v at_t ∙ sym (same_turn u v at_u)

pub one_turn : (t u : Turn) (r : Row) → is_of t r ≡ true → is_of u r ≡ true → t ≡ u
one_turn t u r at_t at_u = named_once t u r.turn at_t at_u

-- the row at a line that is there is of whose it is
pub row_is : (t : Turn) (rows : List Row) (line : ℕ) → line ≡ own_line t rows → line < length rows → is_of t (row_on rows line) ≡ true
row_is t rows line is within =
    ap (λ (k : ℕ). is_of t (row_on rows k)) is ∙ passes_at_first (is_of t) rows blank (omega (arith, is, within))

apart_line : (turn t : Turn) (rows : List Row) (line : ℕ) → line ≡ own_line turn rows → line < length rows → is_same turn t ≡ false → line ≢ own_line t rows
apart_line turn t rows line is within other at_line =
    let both = one_turn turn t (row_on rows line) (row_is turn rows line is within) (row_is t rows line at_line within) in
    false≢true (sym other ∙ (ap (λ (v : Turn). is_same turn v) (sym both) ∙ is_same-self turn))

-- a line is a turn's just where it is that turn
pub line_tells : (turn t : Turn) (rows : List Row) (line : ℕ) → line ≡ own_line turn rows → line < length rows → (b : Bool) → is_same turn t ≡ b →
    (line == own_line t rows) ≡ b
line_tells turn t rows line is within true same = eq-eqb line (own_line t rows) (is ∙ ap (λ (v : Turn). own_line v rows) (same_turn turn t same))
line_tells turn t rows line is within false other =
    false_from_ne_true (line == own_line t rows) (λ h. apart_line turn t rows line is within other (eqb-true line (own_line t rows) h))

-- whose line is this one has one
pub line_had : {on : OnLine} {rows : List Row} → IsOn on rows → HasLine on.turn rows
line_had is = let line = is.line in let within = is.within in omega (arith, line, within)

-- none from a line on, and not the one before it
lower_by : (t : Turn) (rows : List Row) (line : ℕ) → 0 < line → ((k : ℕ) → line ≤ k → k < length rows → is_of t (row_on rows k) ≡ false) →
    is_of t (row_on rows (line - 1)) ≡ false → (k : ℕ) → line - 1 ≤ k → k < length rows → (k ≡ line - 1) ⊎ (k ≢ line - 1) → is_of t (row_on rows k) ≡ false
lower_by t rows line some none this k from within (inl here) = ap (λ (m : ℕ). is_of t (row_on rows m)) here ∙ this
lower_by t rows line some none this k from within (inr other) = none k (omega (arith, some, from, other)) within

pub lower_line : (t : Turn) (rows : List Row) (line : ℕ) → 0 < line → ((k : ℕ) → line ≤ k → k < length rows → is_of t (row_on rows k) ≡ false) →
    is_of t (row_on rows (line - 1)) ≡ false → (k : ℕ) → line - 1 ≤ k → k < length rows → is_of t (row_on rows k) ≡ false
lower_line t rows line some none this k from within = lower_by t rows line some none this k from within (cases_eq k (line - 1))
