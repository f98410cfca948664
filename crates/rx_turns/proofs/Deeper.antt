-- The next deeper turn of a stack that has a line.
use Rattle.std.proofs.Common.{◌≡◌, ◌≢◌, ℕ, ◌+◌, ◌<◌, ◌≤◌, ◌&&◌, Bool, true, false, cond, List, length, Option, Some, None, IfSome, refl, ap, sym, ◌∙◌}
use Rattle.std.proofs.Common.{arith, ◌⊎◌, inl, inr}
use Rattle.std.specs.Prelude.{nat_lt, ◌==◌}
use Rattle.std.proofs.lemmas.List.{get_or_past}
use Rattle.std.proofs.lemmas.Bool.{cases_eq, false≢true, false_from_ne_true, and_parts, ltb-true, ltb-false, le-ltb}
use Rattle.rx_slots.specs.Lists.{Lists}
use Rattle.rx_turns.specs.declared.agenda.Turn.{Turn}
use Rattle.rx_turns.specs.declared.agenda.Row.{Row}
use Rattle.rx_turns.specs.Rows.{is_its, is_of, blank, row_on, own_line, is_deeper, is_before, nearer, AreListed, AreNoDeeper}
use Rattle.rx_turns.specs.Agendas.{HasNothing}
use Rattle.rx_turns.proofs.Lines.{same_turn, line_none}

-- of the rows before a line none of a deeper turn comes before the one that was found
pub record IsFoundTo (turn : Turn) (rows : List Row) (found : Option Turn) (line : ℕ) : Type 0 where
  pub deeper : IfSome found (λ u. is_deeper turn u ≡ true)
  pub none_before : (k : ℕ) → k < line → (u : Turn) → is_of u (row_on rows k) ≡ true → is_deeper turn u ≡ true → is_before u found ≡ false

pub none_found : (turn : Turn) (rows : List Row) → IsFoundTo turn rows None 0
none_found turn rows = record { deeper = tt; none_before = λ k before u own deep. absurd (omega (arith, before)) }

chosen : (turn v : Turn) (found : Option Turn) (b : Bool) → (is_deeper turn v && is_before v found) ≡ b → IfSome found (λ u. is_deeper turn u ≡ true) →
    IfSome (cond b (Some v) found) (λ u. is_deeper turn u ≡ true)
chosen turn v found true is so = (and_parts (is_deeper turn v) (is_before v found) is).0
chosen turn v found false is so = so

deeper_by : (turn : Turn) (found other : Option Turn) → IfSome found (λ u. is_deeper turn u ≡ true) →
    IfSome (nearer turn found other) (λ u. is_deeper turn u ≡ true)
deeper_by turn found None so = so
deeper_by turn found (Some v) so = chosen turn v found (is_deeper turn v && is_before v found) refl so

-- who did not come before what was found does not come before what is nearer
still_by : (u v : Turn) (found : Option Turn) → is_before u found ≡ false → is_before v found ≡ true → is_before u (Some v) ≡ false
still_by u v None was is = absurd (false≢true (sym was))
still_by u v (Some n) was is =
    let far = ltb-false u.depth n.depth was in
    let near = ltb-true v.depth n.depth is in
    le-ltb u.depth v.depth (omega (arith, far, near))

still_on : (turn u v : Turn) (found : Option Turn) (b : Bool) → (is_deeper turn v && is_before v found) ≡ b → is_before u found ≡ false →
    is_before u (cond b (Some v) found) ≡ false
still_on turn u v found true is was = still_by u v found was (and_parts (is_deeper turn v) (is_before v found) is).1
still_on turn u v found false is was = was

still : (turn u : Turn) (found other : Option Turn) → is_before u found ≡ false → is_before u (nearer turn found other) ≡ false
still turn u found None was = was
still turn u found (Some v) was = still_on turn u v found (is_deeper turn v && is_before v found) refl was

-- nor does the row's own turn
own_on : (turn v : Turn) (found : Option Turn) (a b : Bool) → is_deeper turn v ≡ a → is_before v found ≡ b → a ≡ true →
    is_before v (cond (a && b) (Some v) found) ≡ false
own_on turn v found true true deep before is = le-ltb v.depth v.depth (omega arith)
own_on turn v found true false deep before is = before
own_on turn v found false b deep before is = absurd (false≢true is)

own_by : (turn u : Turn) (found other : Option Turn) → is_its u other ≡ true → is_deeper turn u ≡ true → is_before u (nearer turn found other) ≡ false
own_by turn u found None own deep = absurd (false≢true own)
own_by turn u found (Some v) own deep =
    let same = same_turn u v own in
    ap (λ (w : Turn). is_before w (nearer turn found (Some v))) same
    ∙ own_on turn v found (is_deeper turn v) (is_before v found) refl refl (ap (λ (w : Turn). is_deeper turn w) (sym same) ∙ deep)

module _ (turn : Turn) (rows : List Row) (found : Option Turn) (line : ℕ) (is : IsFoundTo turn rows found line) where
  before_by : (k : ℕ) → k < line + 1 → (u : Turn) → is_of u (row_on rows k) ≡ true → is_deeper turn u ≡ true → (k ≡ line) ⊎ (k ≢ line) →
      is_before u (nearer turn found (row_on rows line).turn) ≡ false
  before_by k before u own deep (inl at_line) =
      own_by turn u found (row_on rows line).turn (ap (λ n. is_of u (row_on rows n)) (sym at_line) ∙ own) deep
  before_by k before u own deep (inr apart) =
      still turn u found (row_on rows line).turn (is.none_before k (omega (arith, before, apart)) u own deep)

  pub next_found : IsFoundTo turn rows (nearer turn found (row_on rows line).turn) (line + 1)
  next_found = record {
    deeper = deeper_by turn found (row_on rows line).turn is.deeper;
    none_before = λ k before u own deep. before_by k before u own deep (cases_eq k line);
  }

  -- behind the last line no deeper turn that comes before has a line
  pub none_between : length rows ≤ line → (u : Turn) → is_deeper turn u ≡ true → is_before u found ≡ true → own_line u rows ≡ length rows
  none_between all u deep before =
      line_none u rows (λ k within. false_from_ne_true (is_of u (row_on rows k))
      (λ own. false≢true (sym (is.none_before k (omega (arith, all, within)) u own deep) ∙ before)))

-- who has no line has nothing
pub no_line : (u : Turn) (rows : List Row) (lists : Lists) (words : List ℕ) → AreListed rows lists → own_line u rows ≡ length rows →
    HasNothing (record { rows = rows; lists = lists; words = words }) u
no_line u rows lists words listed none = (
  listed.idle (own_line u rows) (omega (arith, none)),
  ap (λ (r : Row). r.in_hand) (get_or_past rows (own_line u rows) blank
      (omega (arith, none))),
)

-- nobody has a row who is deeper than all
not_there : (deepest : ℕ) (rows : List Row) (u : Turn) → AreNoDeeper deepest rows → deepest < u.depth → (k : ℕ) (b : Bool) → is_of u (row_on rows k) ≡ b →
    is_of u (row_on rows k) ≡ false
not_there deepest rows u are far k true own = let near = are u k own in absurd (omega (arith, near, far))
not_there deepest rows u are far k false own = own

pub none_so_deep : (deepest : ℕ) (rows : List Row) (turn u : Turn) → AreNoDeeper deepest rows → deepest ≤ turn.depth → is_deeper turn u ≡ true →
    own_line u rows ≡ length rows
none_so_deep deepest rows turn u are near deep =
    let more : turn.depth < u.depth = ltb-true turn.depth u.depth (and_parts (u.by == turn.by) (nat_lt turn.depth u.depth) deep).1 in
    line_none u rows (λ k within. not_there deepest rows u are (omega (arith, near, more)) k (is_of u (row_on rows k)) refl)
