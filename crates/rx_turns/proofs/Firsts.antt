-- Who is first on a list stands there, and whose list has one has a line.
use Rattle.std.proofs.Common.{◌≡◌, ℕ, ◌<◌, ◌≤◌, ◌||◌, true, List, [], ◌∷◌, length, Option, Some, None, IfSome, ap, subst, ◌∙◌, ◌⊎◌, inl, inr}
use Rattle.std.proofs.lemmas.List.{get_or_past}
use Rattle.std.proofs.lemmas.Bool.{cases_lt, eq-eqb}
use Rattle.rx_slots.specs.Lists.{Lists, list_at, is_in, head_of, IsPlain}
use Rattle.rx_turns.specs.declared.agenda.OnLine.{OnLine}
use Rattle.rx_turns.specs.declared.agenda.Task.{Task}
use Rattle.rx_turns.specs.declared.agenda.Row.{Row}
use Rattle.rx_turns.specs.Rows.{blank, row_on, IsTheLine, IsOn, AreListed, IsToldOf}

some_is : (a b : ℕ) → Some a ≡ Some b → a ≡ b
some_is a b same = ap (λ (o : Option ℕ). or_zero o) same
  where
    or_zero : Option ℕ → ℕ
    or_zero None = 0
    or_zero (Some n) = n

first_is_in : (m : ℕ) (xs : List ℕ) → Some m ≡ head_of xs → is_in m xs ≡ true
first_is_in m [] is = absurd (cc)
first_is_in m (x ∷ xs) is = ap (λ b. b || is_in m xs) (eq-eqb m x (some_is m x is))

-- a first one is below the bound of all
pub first_below : (o : Option ℕ) (lists : Lists) (line : ℕ) → IsPlain lists → o ≡ head_of (list_at lists line) → IfSome o (λ place. place < lists.members)
first_below None lists line plain is = tt
first_below (Some m) lists line plain is = plain.below line m (first_is_in m (list_at lists line) is)

there_by : (m line : ℕ) (rows : List Row) (lists : Lists) → AreListed rows lists → Some m ≡ head_of (list_at lists line) →
    (line < length rows) ⊎ (length rows ≤ line) → line < length rows
there_by m line rows lists listed is (inl within) = within
there_by m line rows lists listed is (inr past) =
    let none : Some m ≡ None = is ∙ ap head_of (listed.idle line past) in
    absurd (cc)

-- whose list has a first one has a line
pub first_line : (o : Option ℕ) (lists : Lists) (rows : List Row) (on : OnLine) → AreListed rows lists → IsTheLine on rows →
    o ≡ head_of (list_at lists on.line) → IfSome o (λ _. IsOn on rows)
first_line None lists rows on listed at is = tt
first_line (Some m) lists rows on listed at is = record { line = at; within = there_by m on.line rows lists listed is (cases_lt on.line (length rows)) }

served_by : (h : Task) (rows : List Row) (line : ℕ) → Some h ≡ (row_on rows line).in_hand → (line < length rows) ⊎ (length rows ≤ line) → line < length rows
served_by h rows line is (inl within) = within
served_by h rows line is (inr past) =
    let none : Some h ≡ None = is ∙ ap (λ (r : Row). r.in_hand) (get_or_past rows line blank past) in
    absurd (cc)

-- and who serves a lane has one
pub served_line : (o : Option Task) (rows : List Row) (on : OnLine) → IsTheLine on rows → o ≡ (row_on rows on.line).in_hand → IfSome o (λ _. IsOn on rows)
served_line None rows on at is = tt
served_line (Some h) rows on at is = record { line = at; within = served_by h rows on.line is (cases_lt on.line (length rows)) }

told_by : (w : ℕ) (rows : List Row) (line : ℕ) → IsToldOf (row_on rows line).in_hand (Some w) → (line < length rows) ⊎ (length rows ≤ line) → line < length rows
told_by w rows line is (inl within) = within
told_by w rows line is (inr past) =
    absurd (tells_no_blank w (subst (λ (r : Row). IsToldOf r.in_hand (Some w)) (get_or_past rows line blank past) is))
  where
    tells_no_blank : (w : ℕ) → IsToldOf None (Some w) → ⊥
    tells_no_blank w is = elim is [ ]

pub told_line : (o : Option ℕ) (rows : List Row) (on : OnLine) → IsTheLine on rows → IsToldOf (row_on rows on.line).in_hand o → IfSome o (λ _. IsOn on rows)
told_line None rows on at is = tt
told_line (Some w) rows on at is = record { line = at; within = told_by w rows on.line is (cases_lt on.line (length rows)) }
