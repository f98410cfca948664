-- Before a line nothing is in hand that is not begun.
use Rattle.std.proofs.Common.{◌≡◌, ◌≢◌, ℕ, ◌+◌, ◌<◌, ◌≤◌, Bool, true, false, cond, List, length, Option, Some, None, refl, ap, sym, ◌∙◌, arith, ◌⊎◌, inl, inr, min, ◌||◌, ◌==◌, ◌&&◌, subst, if◌then◌else◌}
use Rattle.std.specs.Prelude.{slice_set}
use Rattle.std.proofs.Math.Bool.{not}
use Rattle.std.proofs.lemmas.List.{get_or-set_same, get_or-set_other}
use Rattle.std.proofs.lemmas.Bool.{cases_eq, eqb-true}
use Rattle.rx_turns.specs.declared.agenda.Task.{Task}
use Rattle.rx_turns.specs.declared.agenda.Row.{Row}
use Rattle.rx_turns.specs.Rows.{is_by, begun_by, with_begun, is_fresh, is_fresh_hand, blank, row_on, AreSettled, settled_behind}
use Rattle.rx_turns.proofs.Held.{with_hand}

pub none_settled : (rows : List Row) → AreSettled 0 rows
none_settled rows k before = absurd (omega (arith, before))

settled_by : (n : ℕ) (rows : List Row) → AreSettled n rows → is_fresh (row_on rows n) ≡ false → (k : ℕ) → k < n + 1 → (k ≡ n) ⊎ (k ≢ n) →
    is_fresh (row_on rows k) ≡ false
settled_by n rows are old k before (inl last) = ap (λ (m : ℕ). is_fresh (row_on rows m)) last ∙ old
settled_by n rows are old k before (inr other) = are k (omega (arith, before, other))

-- one line more
pub settled_on : (n : ℕ) (rows : List Row) → AreSettled n rows → is_fresh (row_on rows n) ≡ false → AreSettled (n + 1) rows
settled_on n rows are old k before = settled_by n rows are old k before (cases_eq k n)

-- another line has something in hand
kept_by : (rows : List Row) (line k : ℕ) (hand : Option Task) → k ≢ line → is_fresh (row_on (with_hand rows line hand) k) ≡ is_fresh (row_on rows k)
kept_by rows line k hand other = ap is_fresh (get_or-set_other rows line k (record (row_on rows line) { in_hand = hand }) blank other)

pub settled_held : (n line : ℕ) (hand : Option Task) (rows : List Row) → AreSettled n rows → AreSettled (min n line) (with_hand rows line hand)
settled_held n line hand rows are k before =
    kept_by rows line k hand (omega (arith, before)) ∙ are k (omega (arith, before))

emptied_by : (n line : ℕ) (rows : List Row) → line < length rows → AreSettled n rows → (k : ℕ) → k < n → (k ≡ line) ⊎ (k ≢ line) →
    is_fresh (row_on (with_hand rows line None) k) ≡ false
emptied_by n line rows within are k before (inl here) =
    ap (λ (m : ℕ). is_fresh (row_on (with_hand rows line None) m)) here
    ∙ ap is_fresh (get_or-set_same rows line (record (row_on rows line) { in_hand = None }) blank within)
emptied_by n line rows within are k before (inr other) = kept_by rows line k None other ∙ are k before

pub settled_emptied : (n line : ℕ) (rows : List Row) → line < length rows → AreSettled n rows → AreSettled n (with_hand rows line None)
settled_emptied n line rows within are k before = emptied_by n line rows within are k before (cases_eq k line)

is_not_false : (b : Bool) → not b ≡ false → b ≡ true
is_not_false true old = refl
is_not_false false old = absurd (cc)

-- what is begun stays as it is where something is noted
begun_hand : (ticket : ℕ) (o : Option Task) → is_fresh_hand o ≡ false → begun_by ticket o ≡ o
begun_hand ticket None old = refl
begun_hand ticket (Some h) old =
    let is : h.is_begun ≡ true = is_not_false h.is_begun old in
    ap (λ (b : Bool). Some (record h { is_begun = b })) (ap (λ (b : Bool). b || (h.ticket == ticket)) is ∙ sym is)

either : (b : Bool) (o : Option Task) (ticket : ℕ) → is_fresh_hand o ≡ false → cond b (begun_by ticket o) o ≡ o
either true o ticket old = begun_hand ticket o old
either false o ticket old = refl

pub begun_stays : (by ticket : ℕ) (r : Row) → is_fresh r ≡ false → with_begun by ticket r ≡ r
begun_stays by ticket r old = ap (λ (o : Option Task). record r { in_hand = o }) (either (is_by by r.turn) r.in_hand ticket old)

-- so it is settled then too
pub settled_marked : (by ticket n : ℕ) (old new : List Row) → ((k : ℕ) → row_on new k ≡ with_begun by ticket (row_on old k)) → AreSettled n old → AreSettled n new
settled_marked by ticket n old new each are k before =
    ap is_fresh (each k ∙ begun_stays by ticket (row_on old k) (are k before)) ∙ are k before

-- one line that was looked at
kept_set : (n line : ℕ) (r : Row) (rows : List Row) → n ≤ line → AreSettled n rows → AreSettled n (slice_set rows line r)
kept_set n line r rows fits are k before =
    ap is_fresh (get_or-set_other rows line k r blank (omega (arith, before, fits))) ∙ are k before

not_fresh : (b : Bool) → not b ≡ true → b ≡ false
not_fresh false is = refl
not_fresh true is = absurd (cc)

last_set : (line : ℕ) (r : Row) (rows : List Row) → line < length rows → not (is_fresh r) ≡ true → AreSettled line (slice_set rows line r) →
    AreSettled (line + 1) (slice_set rows line r)
last_set line r rows within old are =
    settled_on line (slice_set rows line r) are (ap is_fresh (get_or-set_same rows line r blank within) ∙ not_fresh (is_fresh r) old)

looked_by : (a b : Bool) (n line : ℕ) (r : Row) (rows : List Row) → n ≤ line → line < length rows → AreSettled n rows → n == line ≡ a →
    not (is_fresh r) ≡ b → AreSettled (if a && b then line + 1 else n) (slice_set rows line r)
looked_by false b n line r rows fits within are at old = kept_set n line r rows fits are
looked_by true false n line r rows fits within are at old = kept_set n line r rows fits are
looked_by true true n line r rows fits within are at old =
    last_set line r rows within old
    (subst (λ (m : ℕ). AreSettled m (slice_set rows line r)) (eqb-true n line at) (kept_set n line r rows fits are))

pub settled_next : (n line : ℕ) (r : Row) (rows : List Row) → n ≤ line → line < length rows → AreSettled n rows →
    AreSettled (settled_behind n line r) (slice_set rows line r)
settled_next n line r rows fits within are = looked_by (n == line) (not (is_fresh r)) n line r rows fits within are refl refl

fits_by : (a b : Bool) (n line : ℕ) → n ≤ line → (if a && b then line + 1 else n) ≤ line + 1
fits_by false b n line fits = omega (arith, fits)
fits_by true false n line fits = omega (arith, fits)
fits_by true true n line fits = omega arith

pub settled_fits : (n line : ℕ) (r : Row) → n ≤ line → settled_behind n line r ≤ line + 1
settled_fits n line r fits = fits_by (n == line) (not (is_fresh r)) n line fits
