-- What was found of a list of events.
use Rattle.std.specs.Prelude.{◌≡◌, ◌≤◌, slice_index_or}
use Rattle.rx_audit.specs.Imports.{ℕ, ℤ, List, length, Event, Item, is_open, leases_of, Found, Visit}
use Rattle.rx_audit.specs.Flow.{IsReached}
use Rattle.rx_audit.specs.Tables.{IsMarked, IsTable, IsTally, mark_count}
use Rattle.rx_audit.specs.Rules.{was_removed, was_returned, was_taken}

-- each list says what the definitions say of these events, and has so many places
pub record AreListsFound (h : List Event) (size : ℕ) (found : Found) : Type 0 where
  pub live : IsMarked found.live.items (is_open h)
  pub live_size : length found.live.items ≡ size
  pub live_count : found.live_count ≡ mark_count found.live.items
  pub removed : IsTable found.removed.items (was_removed h)
  pub removed_size : length found.removed.items ≡ size
  pub returned : IsTable found.returned.items (was_returned h)
  pub returned_size : length found.returned.items ≡ size
  pub leases : IsTally found.leases.items (leases_of h)
  pub leases_size : length found.leases.items ≡ size
  pub leases_few : (n : ℕ) → slice_index_or found.leases.items n 0 ≤ length h
  pub taken : IsTable found.taken.items (was_taken h)
  pub taken_size : length found.taken.items ≡ size

-- the same, with room for each event
pub record IsFoundHere (h : List Event) (found : Found) : Type 0 where
  pub room : length h ≤ length found.live.items
  pub is : AreListsFound h (length found.live.items) found

-- if the event is an item, the log has the nodes that it visits
abbrev pub IsClimbed : List Event → Event → List Visit → Type 0
IsClimbed h e log = (leaf : ℕ) (value : ℤ) → e ≡ Item leaf value → IsReached h leaf log
