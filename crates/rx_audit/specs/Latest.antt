-- The last number with a key, as tables tell it: one more than the number, and 0 where there is none.
use Rattle.std.specs.Prelude.{◌≡◌, ◌+◌, ◌≤◌, ◌<◌, slice_index_or, slice_set, if◌then◌else◌}
use Rattle.rx_audit.specs.Imports.{ℕ, zero, suc, Bool, true, false, Option, Some, None, List, length, slice_get, option_and_then, Event, inner_named}
use Rattle.rx_audit.specs.Imports.{parent, is_open}
use Rattle.rx_audit.specs.declared.children.Children.{Children}
use Rattle.rx_audit.specs.Tables.{mark_count}
use Rattle.rx_audit.specs.Rules.{names_number, stays_open}

-- one more than the last number below the bound that passes the test
abbrev pub last_below : (ℕ → Bool) → ℕ → ℕ
last_below p zero = 0
last_below p (suc k) = if p k then suc k else last_below p k

abbrev pub keyed : (ℕ → Option ℕ) → ℕ → ℕ → Bool
keyed key n k = names_number (key k) n

-- the table leads from each number to the last below the bound that has it as its key
abbrev pub IsLatest : List ℕ → (ℕ → Option ℕ) → ℕ → Type 0
IsLatest table key bound = (n : ℕ) → n < length table → slice_index_or table n 0 ≡ last_below (keyed key n) bound

-- and from each number below the bound to the one before it with the same key
abbrev pub IsLinkedBack : List ℕ → (ℕ → Option ℕ) → ℕ → Type 0
IsLinkedBack next key bound = (k n : ℕ) → k < bound → key k ≡ Some n → slice_index_or next k 0 ≡ last_below (keyed key n) k

-- the table with the value at the place of the key
abbrev pub table_with : List ℕ → Option ℕ → ℕ → List ℕ
table_with table None value = table
table_with table (Some p) value = slice_set table p value

-- the links with that of number n, where it has a key
abbrev pub link_with : List ℕ → List ℕ → Option ℕ → ℕ → List ℕ
link_with next last None n = next
link_with next last (Some p) n = slice_set next n (slice_index_or last p 0)

abbrev pub inner_named_at : List Event → ℕ → Option ℕ
inner_named_at h k = option_and_then inner_named (slice_get h k)

-- the lists lead to the children of each node, youngest first, and to its youngest inner
pub record AreChildren (h : List Event) (size : ℕ) (children : Children) : Type 0 where
  pub youngest : IsLatest children.youngest.items (parent h) (length h)
  pub youngest_size : length children.youngest.items ≡ size
  pub older : IsLinkedBack children.older.items (parent h) (length h)
  pub older_size : length children.older.items ≡ size
  pub inner : IsLatest children.inner.items (inner_named_at h) (length h)
  pub inner_size : length children.inner.items ≡ size

-- the node stands in the list, at this place or after it
pub record IsNoted (from : ℕ) (todo : List ℕ) (n : ℕ) : Type 0 where
  pub at : ℕ
  pub after : from ≤ at
  pub within : at < length todo
  pub is : slice_index_or todo at 0 ≡ n

-- the list has each node that the event closes, and nothing that stays open
pub record AreClosed (h : List Event) (e : Event) (closed : List ℕ) : Type 0 where
  pub noted : (n : ℕ) → is_open h n ≡ true → stays_open h e n ≡ false → IsNoted 0 closed n
  pub gone : (k : ℕ) → k < length closed → stays_open h e (slice_index_or closed k 0) ≡ false

-- marks of children of p were taken away, of all from the bound on, and each that was is noted at the end of the list
pub record IsClosingBelow (h : List Event) (p bound : ℕ) (old new : List Bool) (before after : List ℕ) : Type 0 where
  pub size : length new ≡ length old
  pub kept : (n : ℕ) → slice_index_or new n false ≡ true → slice_index_or old n false ≡ true
  pub below : (n : ℕ) → slice_index_or old n false ≡ true → slice_index_or new n false ≡ false → parent h n ≡ Some p
  pub noted : (n : ℕ) → slice_index_or old n false ≡ true → slice_index_or new n false ≡ false → IsNoted (length before) after n
  pub same : (k : ℕ) → k < length before → slice_index_or after k 0 ≡ slice_index_or before k 0
  pub longer : length before ≤ length after
  pub closed : (k : ℕ) → length before ≤ k → k < length after → slice_index_or new (slice_index_or after k 0) false ≡ false
  pub within : (k : ℕ) → length before ≤ k → k < length after → slice_index_or after k 0 < length h
  pub balance : mark_count new + length after ≡ mark_count old + length before
  pub gone : (c : ℕ) → parent h c ≡ Some p → slice_index_or new c false ≡ true → c < bound

-- what is open passes no such test
abbrev pub ShutsNone : List Event → (ℕ → Bool) → Type 0
ShutsNone h test = (n : ℕ) → is_open h n ≡ true → test n ≡ false

-- the node is open and passes the test, and no other does both
pub record IsShutAlone (h : List Event) (test : ℕ → Bool) (top : ℕ) : Type 0 where
  pub within : top < length h
  pub open_before : is_open h top ≡ true
  pub shut : test top ≡ true
  pub alone : (n : ℕ) → is_open h n ≡ true → test n ≡ true → n ≡ top
