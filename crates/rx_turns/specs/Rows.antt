-- Whose each line of an agenda is. No public clause cites this module but by `Agendas`.
use Rattle.std.specs.Prelude.{◌≡◌, ℕ, ◌+◌, if◌then◌else◌, ◌<◌, ◌≤◌, ◌==◌, ◌&&◌, ◌||◌, nat_lt, Bool, true, false, cond, List, [], length, Option, Some, None, slice_index_or}
use Rattle.std.specs.List.{position_or_len}
use Rattle.std.proofs.Math.Bool.{not}
use Rattle.rx_slots.specs.Lists.{Lists, list_at}
use Rattle.rx_turns.specs.declared.agenda.Turn.{Turn}
use Rattle.rx_turns.specs.declared.agenda.Task.{Task}
use Rattle.rx_turns.specs.declared.agenda.Row.{Row}
use Rattle.rx_turns.specs.declared.agenda.OnLine.{OnLine}

abbrev pub is_fresh_hand : Option Task → Bool
is_fresh_hand None = false
is_fresh_hand (Some h) = not h.is_begun

abbrev pub is_same : Turn → Turn → Bool
is_same a b = a.by == b.by && a.depth == b.depth

abbrev pub is_its : Turn → Option Turn → Bool
is_its t None = false
is_its t (Some u) = is_same t u

abbrev pub is_of : Turn → Row → Bool
is_of t r = is_its t r.turn

-- nobody's
abbrev pub blank : Row
blank = record { turn = None; in_hand = None }

abbrev pub row_on : List Row → ℕ → Row
row_on rows line = slice_index_or rows line blank

-- the line of a turn: where its row stands; behind all rows where it has none
abbrev pub own_line : Turn → List Row → ℕ
own_line t rows = position_or_len (is_of t) rows

-- no two rows are of one turn
abbrev pub HaveOneRowEach : List Row → Type 0
HaveOneRowEach rows = (t : Turn) (i j : ℕ) → is_of t (row_on rows i) ≡ true → is_of t (row_on rows j) ≡ true → i ≡ j

-- what is due to a turn, and what it was handed of the lane that it serves
abbrev pub due_on : List Row → Lists → Turn → List ℕ
due_on rows lists t = list_at lists (own_line t rows)

abbrev pub hand_on : List Row → Turn → Option Task
hand_on rows t = (row_on rows (own_line t rows)).in_hand

-- each row has a list, and nothing is due behind all rows
pub record AreListed (rows : List Row) (lists : Lists) : Type 0 where
  pub fits : length rows ≤ length lists.lists
  pub idle : (k : ℕ) → length rows ≤ k → list_at lists k ≡ []

-- it has one
abbrev pub HasLine : Turn → List Row → Type 0
HasLine t rows = own_line t rows < length rows

-- a turn's line is this one, which may stand behind all rows
abbrev pub IsTheLine : OnLine → List Row → Type 0
IsTheLine on rows = on.line ≡ own_line on.turn rows

-- and it has one
pub record IsOn (on : OnLine) (rows : List Row) : Type 0 where
  pub line : on.line ≡ own_line on.turn rows
  pub within : on.line < length rows

-- something is in hand that is not begun
abbrev pub is_fresh : Row → Bool
is_fresh r = is_fresh_hand r.in_hand

-- nothing such is on the lines before this one
abbrev pub AreSettled : (settled : ℕ) → List Row → Type 0
AreSettled settled rows = (k : ℕ) → k < settled → is_fresh (row_on rows k) ≡ false

-- one line more, where this one is the first of which that was not known
abbrev pub settled_behind : (settled line : ℕ) → Row → ℕ
settled_behind settled line r = if settled == line && not (is_fresh r) then line + 1 else settled

-- no row is of a turn deeper than this
abbrev pub AreNoDeeper : (deepest : ℕ) → List Row → Type 0
AreNoDeeper deepest rows = (t : Turn) (k : ℕ) → is_of t (row_on rows k) ≡ true → t.depth ≤ deepest

-- whoever asks is told the same
pub record KeepsRows (old new : List Row) (lists : Lists) : Type 0 where
  pub due : (t : Turn) → due_on new lists t ≡ due_on old lists t
  pub hands : (t : Turn) → hand_on new t ≡ hand_on old t
  pub apart : HaveOneRowEach new
  pub many : length new ≡ length old
  pub begun : (n : ℕ) → AreSettled n old → AreSettled n new

-- a line more, which is blank
pub record Grows (old new : List Row) (lists lists' : Lists) : Type 0 where
  pub read : (k : ℕ) → row_on new k ≡ row_on old k
  pub listed_so : (k : ℕ) → list_at lists' k ≡ list_at lists k
  pub due : (t : Turn) → due_on new lists' t ≡ due_on old lists t
  pub hands : (t : Turn) → hand_on new t ≡ hand_on old t
  pub apart : HaveOneRowEach new
  pub listed : AreListed new lists'
  pub members : lists'.members ≡ lists.members

-- whoever asks is told the same, and there may be more lines
pub record TellsAlike (old new : List Row) (lists lists' : Lists) : Type 0 where
  pub due : (t : Turn) → due_on new lists' t ≡ due_on old lists t
  pub hands : (t : Turn) → hand_on new t ≡ hand_on old t
  pub apart : HaveOneRowEach new
  pub listed : AreListed new lists'
  pub members : lists'.members ≡ lists.members
  pub begun : (n : ℕ) → AreSettled n old → AreSettled n new

-- what has this ticket is begun
abbrev pub begun_by : ℕ → Option Task → Option Task
begun_by ticket None = None
begun_by ticket (Some h) = Some (record h { is_begun = h.is_begun || h.ticket == ticket })

-- it is of the lane of this word
abbrev pub is_of_lane : ℕ → Option Task → Bool
is_of_lane word None = false
is_of_lane word (Some h) = h.word == word

abbrev pub is_by : ℕ → Option Turn → Bool
is_by by None = false
is_by by (Some t) = t.by == by

abbrev pub with_begun : (by ticket : ℕ) → Row → Row
with_begun by ticket r = record r { in_hand = cond (is_by by r.turn) (begun_by ticket r.in_hand) r.in_hand }

-- the lane of what is in hand, where that is begun
pub data IsToldOf : Option Task → Option ℕ → Type 0 where
  tells_none : IsToldOf None None
  tells_fresh : (h : Task) → h.is_begun ≡ false → IsToldOf (Some h) None
  tells_told : (h : Task) → h.is_begun ≡ true → IsToldOf (Some h) (Some h.word)

-- a call deeper on the same stack
abbrev pub is_deeper : Turn → Turn → Bool
is_deeper t u = u.by == t.by && nat_lt t.depth u.depth

-- it is less deep than the one that was found, if there is one
abbrev pub is_before : Turn → Option Turn → Bool
is_before u None = true
is_before u (Some n) = nat_lt u.depth n.depth

-- the nearer of one that was found, and of a row's, if that is deeper than a turn
abbrev pub nearer : Turn → Option Turn → Option Turn → Option Turn
nearer t best None = best
nearer t best (Some u) = cond (is_deeper t u && is_before u best) (Some u) best
