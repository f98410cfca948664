-- How members are kept: a ticket and a place for its value, which is filled.
use Rattle.std.specs.Prelude.{◌≡◌, ℕ, ◌<◌, ◌≤◌, Bool, List, length, slice_index_or, map, filter_map, Option, Some, option_map}
use Rattle.rx_disposable.specs.Group.{IsSound}
use Rattle.rx_disposable.specs.declared.members.Member.{Member}
use Rattle.rx_disposable.specs.declared.members.TheConstants.{INLINE_LEN}

module _ {T : Type 0} where
  -- the ticket and the value of a member, where it has one
  abbrev pub member_entry : Member T → Option (ℕ × T)
  member_entry member = option_map (λ value. (member.ticket, value)) member.value

  -- the tickets and values of members
  abbrev pub member_entries : List (Member T) → List (ℕ × T)
  member_entries members = filter_map member_entry members

  -- the member of a ticket and a value
  abbrev pub member_of_entry : ℕ × T → Member T
  member_of_entry entry = record { ticket = entry.0; value = Some entry.1 }

  -- every place has its value
  abbrev pub AreFilled : List (Member T) → Type 0
  AreFilled members = members ≡ map member_of_entry (member_entries members)

  -- the tickets rise
  abbrev pub AreTicketsRising : List (Member T) → Type 0
  AreTicketsRising members =
      (i j : ℕ) (d : Member T) → i < j → j < length members
      → (slice_index_or members i d).ticket < (slice_index_or members j d).ticket

  -- what a group keeps true of its fields
  pub record IsKept (members : List (Member T)) (capacity given : ℕ) (disposed : Bool) : Type 0 where
    pub filled : AreFilled members
    pub sound : IsSound (record { members = member_entries members; given = given; disposed = disposed })
    pub inline : INLINE_LEN ≤ capacity
