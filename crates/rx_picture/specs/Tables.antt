-- What the tables of a picture say, by number: the place of the event that made a test true, for the places so far. The
-- length of the history stands where none did.
use Rattle.std.specs.Prelude.{◌≡◌, ◌≤◌, ◌<◌, ◌&&◌, ◌==◌, min, max, if◌then◌else◌, slice_index_or, slice_set}
use Rattle.std.proofs.Math.Bool.{◌||◌}
use Rattle.rx_picture.specs.Imports.{ℕ, zero, suc, Bool, true, false, nat_lt, Option, Some, None, List, length, slice_get, take, IsTrue, list_any}
use Rattle.rx_picture.specs.Imports.{option_and_then, option_map_or, Event, End, Close, inner_named, is_switch, is_remove_of, is_return_of, is_take_of}
use Rattle.rx_picture.specs.Imports.{at, if_less, is_shut, is_open, shuts, Row}
use Rattle.rx_picture.specs.Rows.{Spans, IsRowMade}
use Rattle.rx_picture.specs.declared.tables.Tables.{Tables}

-- the option has this number
abbrev pub has_number : Option ℕ → ℕ → Bool
has_number None n = false
has_number (Some m) n = m == n

-- of the prefixes up to the bound the test holds in just those longer than `at`, and `at` is a place below the bound or the size
pub record TurnsAt (h : List Event) (test : List Event → Bool) (bound size at : ℕ) : Type 0 where
  pub turns : (k : ℕ) → k ≤ bound → test (take k h) ≡ nat_lt at k
  pub told : IsTrue (nat_lt at bound || at == size)

-- the table says so of each number
pub record AreTurns (h : List Event) (test : ℕ → List Event → Bool) (bound : ℕ) (table : List ℕ) : Type 0 where
  pub size : length table ≡ length h
  pub each : (n : ℕ) → n < length table → TurnsAt h (test n) bound (length h) (slice_index_or table n 0)

-- the table with the place noted for the key, if it has none yet
abbrev pub noted : List ℕ → Option ℕ → ℕ → List ℕ
noted table None place = table
noted table (Some n) place = if slice_index_or table n 0 == length table then slice_set table n place else table

abbrev pub has_removed : ℕ → List Event → Bool
has_removed r h = list_any (is_remove_of r) h

abbrev pub has_taken : ℕ → List Event → Bool
has_taken r h = list_any (is_take_of r) h

abbrev pub has_returned : ℕ → List Event → Bool
has_returned l h = list_any (is_return_of l) h

abbrev pub was_shut : ℕ → List Event → Bool
was_shut n h = is_shut h n

-- the Switch of which the event at the place opens an inner
abbrev pub if_switch : List Event → ℕ → ℕ → Option ℕ
if_switch h n f = if nat_lt f n && at is_switch h f then Some f else None

abbrev pub switch_of : List Event → ℕ → Option ℕ
switch_of h n = option_and_then (if_switch h n) (option_and_then inner_named (slice_get h n))

-- the table leads from each Switch to one more than its last inner before the bound; 0 where there is none. All before it are shut
pub record AreInners (h : List Event) (bound : ℕ) (inner : List ℕ) : Type 0 where
  pub size : length inner ≡ length h
  pub is_one : (f c : ℕ) → slice_index_or inner f 0 ≡ suc c → (c < bound) × (switch_of h c ≡ Some f)
  pub others : (f c : ℕ) → c < bound → switch_of h c ≡ Some f → is_shut (take bound h) c ≡ false → slice_index_or inner f 0 ≡ suc c

-- one number less, of a table in which 0 says that there is none
abbrev pub number_before : ℕ → Option ℕ
number_before zero = None
number_before (suc c) = Some c

abbrev pub latest_of : List ℕ → Option ℕ → Option ℕ
latest_of inner None = None
latest_of inner (Some f) = number_before (slice_index_or inner f 0)

abbrev pub inner_with : List ℕ → Option ℕ → ℕ → List ℕ
inner_with inner None value = inner
inner_with inner (Some f) value = slice_set inner f value

-- the node that the event ends or closes
abbrev pub stopped_of : Event → Option ℕ
stopped_of (End n t) = Some n
stopped_of (Close n) = Some n
stopped_of _ = None

-- the node that the event at the place takes away: what it stops, or the last inner of its Switch
abbrev pub shut_key : List Event → List ℕ → ℕ → Option ℕ
shut_key h inner b = option_map_or (if_less b) (option_and_then stopped_of (slice_get h b)) (latest_of inner (switch_of h b))

-- of the nodes that are not shut before the place, the event there shuts just the one with this number
abbrev pub IsShutBy : List Event → ℕ → Option ℕ → Type 0
IsShutBy h b key = (n : ℕ) → is_shut (take b h) n ≡ false → has_number key n ≡ (nat_lt n b && option_map_or (shuts (take b h) n) (slice_get h b) false)

-- the table says of each number below the bound after which place it is open no more
pub record AreLines (h : List Event) (bound : ℕ) (table : List ℕ) : Type 0 where
  pub size : length table ≡ bound
  pub begun : (n : ℕ) → n < bound → n ≤ slice_index_or table n 0
  pub within : (n : ℕ) → n < bound → slice_index_or table n 0 ≤ length h
  pub spans : (n : ℕ) → n < bound → Spans h (λ k. is_open k n) n (slice_index_or table n 0)

-- the tables of a whole history
pub record AreTables (h : List Event) (tables : Tables) : Type 0 where
  pub removed : AreTurns h has_removed (length h) tables.removed.items
  pub returned : AreTurns h has_returned (length h) tables.returned.items
  pub taken : AreTurns h has_taken (length h) tables.taken.items
  pub ends : AreLines h (length h) tables.ends.items

-- after which place a resource of the node is owned: the later of the two, where there is such a node
abbrev pub owned_start : List ℕ → ℕ → ℕ → ℕ
owned_start ends node r = if nat_lt node (length ends) then max node r else r

-- after which place a resource of the node is owned no more, where it is removed at the other
abbrev pub owned_end : List ℕ → ℕ → ℕ → ℕ
owned_end ends node removed = if nat_lt node (length ends) then min (slice_index_or ends node 0) removed else 0

-- the row of what the event at the place made, which is shown
pub record IsShownAt (h : List Event) (shown : ℕ → Bool) (n : ℕ) (row : Row) : Type 0 where
  pub number : row.number ≡ n
  pub shown_here : shown n ≡ true
  pub is : IsRowMade h row
