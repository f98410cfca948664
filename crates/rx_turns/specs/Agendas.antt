-- What is due to whom: each turn has the lanes that it is to serve next, in order, and what it was handed of the lane that it serves.
use Rattle.std.specs.Prelude.{◌≡◌, ℕ, ◌<◌, ◌≤◌, ◌==◌, ◌&&◌, Bool, true, false, cond, List, [], ◌∷◌, ◌++◌, length, Option, None, Some, is_none, slice_index_or}
use Rattle.rx_slots.specs.Lists.{Lists, list_at, is_in, take_out, head_of}
use Rattle.rx_turns.specs.declared.agenda.Turn.{Turn}
use Rattle.rx_turns.specs.declared.agenda.Task.{Task}
use Rattle.rx_turns.specs.declared.agenda.Row.{Row}
use Rattle.rx_turns.specs.Rows.{is_same, row_on, due_on, hand_on, begun_by, HaveOneRowEach, HasLine, AreListed, AreSettled, AreNoDeeper}

-- the rows say whose each list is; a list has the places of lanes; and each place has the word under which its lane is due
pub record DueLists : Type 0 where
  pub rows : List Row
  pub lists : Lists
  pub words : List ℕ

-- the places of the lanes that are due to a turn, in order
abbrev pub due_to : DueLists → Turn → List ℕ
due_to a t = due_on a.rows a.lists t

-- what a turn was handed last, of the lane that it serves
abbrev pub in_hand : DueLists → Turn → Option Task
in_hand a t = hand_on a.rows t

-- the word under which the lane of a place is due
abbrev pub lane_word : DueLists → ℕ → ℕ
lane_word a place = slice_index_or a.words place 0

-- for so many places there is room
abbrev pub lanes_fit : DueLists → ℕ
lanes_fit a = a.lists.members

-- a turn has nothing any more
abbrev pub HasNothing : DueLists → Turn → Type 0
HasNothing a t = (due_to a t ≡ []) × (in_hand a t ≡ None)

abbrev pub has_nothing : DueLists → Turn → Bool
has_nothing a t = is_none (in_hand a t) && is_none (head_of (due_to a t))

-- the turn has a line, and the lane of this place may be due
abbrev pub LaneHasRoom : DueLists → Turn → ℕ → Type 0
LaneHasRoom a turn place = HasLine turn a.rows × (place < lanes_fit a)

-- what is in hand on a line that was found
abbrev pub hand_at : DueLists → Option ℕ → Option Task
hand_at a None = None
hand_at a (Some line) = (row_on a.rows line).in_hand

-- each row has a list, of which there are so many, no two rows are of one turn, all before a line are settled, none is deeper than this, and each place
-- has a word
pub record IsAgenda (rows : List Row) (lists : Lists) (lines settled deepest : ℕ) (words : List ℕ) : Type 0 where
  pub listed : AreListed rows lists
  pub counted : lines ≡ length lists.lists
  pub worded : lists.members ≤ length words
  pub apart : HaveOneRowEach rows
  pub begun : AreSettled settled rows
  pub depths : AreNoDeeper deepest rows

-- no lane is due to two turns
abbrev pub IsDueOnce : DueLists → Type 0
IsDueOnce a = (t u : Turn) (place : ℕ) → is_in place (due_to a t) ≡ true → is_in place (due_to a u) ≡ true → t ≡ u

-- on no list is this place
abbrev pub IsDueToNobody : DueLists → ℕ → Type 0
IsDueToNobody a place = (e : ℕ) → is_in place (list_at a.lists e) ≡ false

-- this stack serves the lane of this word
abbrev pub IsServing : DueLists → (by word : ℕ) → Type 0
IsServing a by word = (t : Turn) × (h : Task) × (t.by ≡ by) × (in_hand a t ≡ Some h) × (h.word ≡ word)

-- whoever asks is told the same, and there is no less room
pub record LosesNothing (a b : DueLists) : Type 0 where
  pub due : (t : Turn) → due_to b t ≡ due_to a t
  pub hands : (t : Turn) → in_hand b t ≡ in_hand a t
  pub words : (p : ℕ) → lane_word b p ≡ lane_word a p
  pub places_are : lanes_fit a ≤ lanes_fit b

-- a lane is due to this turn, behind all others, and to no other turn
pub record Claims (turn : Turn) (place word : ℕ) (a b : DueLists) : Type 0 where
  pub due : (t : Turn) → due_to b t ≡ cond (is_same turn t) (take_out place (due_to a t) ++ place ∷ []) (take_out place (due_to a t))
  pub hands : (t : Turn) → in_hand b t ≡ in_hand a t
  pub words : (p : ℕ) → lane_word b p ≡ cond (place == p) word (lane_word a p)
  pub places_are : lanes_fit a ≤ lanes_fit b

-- a lane is due to nobody
pub record IsDueNoMore (place : ℕ) (a b : DueLists) : Type 0 where
  pub due : (t : Turn) → due_to b t ≡ take_out place (due_to a t)
  pub hands : (t : Turn) → in_hand b t ≡ in_hand a t
  pub words : (p : ℕ) → lane_word b p ≡ lane_word a p
  pub places_are : lanes_fit b ≡ lanes_fit a

-- nothing is due to this turn
pub record IsEmptied (turn : Turn) (a b : DueLists) : Type 0 where
  pub due : (t : Turn) → due_to b t ≡ cond (is_same turn t) [] (due_to a t)
  pub hands : (t : Turn) → in_hand b t ≡ in_hand a t
  pub words : (p : ℕ) → lane_word b p ≡ lane_word a p
  pub places_are : lanes_fit b ≡ lanes_fit a

-- a turn has this in hand, or nothing
pub record Holds (turn : Turn) (hand : Option Task) (a b : DueLists) : Type 0 where
  pub due : (t : Turn) → due_to b t ≡ due_to a t
  pub hands : (t : Turn) → in_hand b t ≡ cond (is_same turn t) hand (in_hand a t)
  pub words : (p : ℕ) → lane_word b p ≡ lane_word a p
  pub places_are : lanes_fit b ≡ lanes_fit a

-- what a stack of calls was handed under this ticket is begun
pub record NotesBegun (by ticket : ℕ) (a b : DueLists) : Type 0 where
  pub due : (t : Turn) → due_to b t ≡ due_to a t
  pub hands : (t : Turn) → in_hand b t ≡ cond (t.by == by) (begun_by ticket (in_hand a t)) (in_hand a t)
  pub words : (p : ℕ) → lane_word b p ≡ lane_word a p
  pub places_are : lanes_fit b ≡ lanes_fit a
