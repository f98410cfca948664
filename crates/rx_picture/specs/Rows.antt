-- What the rows of a picture are, in the words of the history. A prefix of length k is what had happened just before the
-- event at place k: so a thing is drawn at the places of the events that found it so.
use Rattle.std.specs.Prelude.{◌≡◌, ◌≤◌, ◌&&◌, ◌||◌, ◌==◌, if◌then◌else◌}
use Rattle.rx_picture.specs.Imports.{ℕ, Bool, nat_lt, Option, Some, None, List, length, slice_get, filter, map, take, IsTrue, not, AllByRecursion}
use Rattle.rx_picture.specs.Imports.{Event, End, Lease, makes_node, makes_hub, makes_resource, makes_lease, at, places, is_open, is_owned, is_out}
use Rattle.rx_picture.specs.Imports.{is_taken, Shape, Node, Hub, Resource, Loan, Row}
use Rattle.rx_picture.specs.declared.row.Ending.{Ending}
use Rattle.rx_picture.specs.declared.row.Ending.TheVariants.{Lasting, Ended, Disposed}

-- prefixes ----------------------------------------------------------------------------------------

-- the test holds of just the prefixes that are longer than `after` and not longer than `until`
abbrev pub Spans : List Event → (List Event → Bool) → ℕ → ℕ → Type 0
Spans h test after until = (k : ℕ) → k ≤ length h → test (take k h) ≡ (nat_lt after k && not (nat_lt until k))

-- the test holds of just the prefixes that are longer than this: the event at this place makes it true
abbrev pub Begins : List Event → (List Event → Bool) → ℕ → Type 0
Begins h test from = (k : ℕ) → k ≤ length h → test (take k h) ≡ nat_lt from k

-- nodes -------------------------------------------------------------------------------------------

-- how node n ends where this event closes it: its own end says how, every other event disposes of it
abbrev pub ending_by : ℕ → Option Event → Ending
ending_by n None = Lasting
ending_by n (Some (End m t)) = if m == n then Ended t else Disposed
ending_by n (Some _) = Disposed

-- the line of node n spans just the prefixes in which it is open, and says what the event did that closed it
pub record IsLine (h : List Event) (n until : ℕ) (ending : Ending) : Type 0 where
  pub begun : n ≤ until
  pub within : until ≤ length h
  pub spans : Spans h (λ k. is_open k n) n until
  pub ends : ending ≡ ending_by n (slice_get h until)

-- resources ---------------------------------------------------------------------------------------

-- the bar of resource r: its node owns it in just these prefixes, and it is taken in just those after the event that hands
-- it out. In the others after its acceptance it waits, but where a lease holds it
pub record IsBar (h : List Event) (r owned_after owned_until taken : ℕ) : Type 0 where
  pub accepted : r ≤ owned_after
  pub in_order : owned_after ≤ owned_until
  pub owned_within : owned_until ≤ length h
  pub owned : Spans h (λ k. is_owned k r) owned_after owned_until
  pub accepted_before : r ≤ taken
  pub taken_within : taken ≤ length h
  pub takes : Begins h (λ k. is_taken k r) taken

-- leases ------------------------------------------------------------------------------------------

-- lease l is out in just these prefixes
pub record IsLoan (h : List Event) (l until : ℕ) : Type 0 where
  pub begun : l ≤ until
  pub within : until ≤ length h
  pub out : Spans h (λ k. is_out k l) l until

-- rows --------------------------------------------------------------------------------------------

-- the event makes something that has a track
abbrev pub is_drawn : Event → Bool
is_drawn e = makes_node e || makes_hub e || makes_resource e

-- a lease has a row too, which lies in the track of its resource
abbrev pub has_row : Event → Bool
has_row e = is_drawn e || makes_lease e

-- the number in whose track the row lies of what the event at place n made
abbrev pub track_of : ℕ → Event → ℕ
track_of n (Lease r) = r
track_of n _ = n

abbrev pub IsShape : List Event → ℕ → Shape → Type 0
IsShape h n (Node until ending) = IsTrue (at makes_node h n) × IsLine h n until ending
IsShape h n Hub = IsTrue (at makes_hub h n)
IsShape h n (Resource owned_after owned_until taken) = IsTrue (at makes_resource h n) × IsBar h n owned_after owned_until taken
IsShape h n (Loan resource until) = (slice_get h n ≡ Some (Lease resource)) × IsLoan h n until

-- the row is that of what its event made
pub record IsRowMade (h : List Event) (row : Row) : Type 0 where
  pub made : slice_get h row.number ≡ Some row.made
  pub shape : IsShape h row.number row.shape

-- one row for each node, hub, resource and lease that is shown, by rising number
pub record AreRowsShown (h : List Event) (shown : ℕ → Bool) (rows : List Row) : Type 0 where
  pub numbers : map (λ row. row.number) rows ≡ filter (λ n. at has_row h n && shown n) (places h)
  pub each : AllByRecursion (IsRowMade h) rows

-- a resource that leaks: it was never handed out
abbrev pub leaks : List Event → ℕ → Bool
leaks h r = at makes_resource h r && not (is_taken h r)

-- what is left behind the events: an open node, or a resource that leaks
abbrev pub is_left_behind : List Event → ℕ → Bool
is_left_behind h n = is_open h n || leaks h n
