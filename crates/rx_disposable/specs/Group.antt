-- What a group holds, and what a ticket stands for.
use Rattle.std.specs.Prelude.{◌≡◌, ◌≢◌, ℕ, ◌+◌, ◌≤◌, Bool, true, List, [], ◌∷◌, ◌++◌, Option, nat_eq}
use Rattle.rx_disposable.specs.declared.group.TheConstants.{MAX_TICKETS}
use Rattle.std.specs.Map.{lookup, remove_entry, set_value}

-- the values inside with their tickets, in order of adding; how many tickets were given; and whether
-- the group is disposed of
pub record Group (T : Type 0) : Type 0 where
  pub members : List (ℕ × T)
  pub given : ℕ
  pub disposed : Bool

module _ {T : Type 0} where
  -- the value that is inside under a ticket
  abbrev pub value_under : Group T → ℕ → Option T
  value_under group ticket = lookup (nat_eq ticket) group.members

  -- the group with one value more, under the next ticket
  abbrev pub with_added : Group T → T → Group T
  with_added group value =
      record group { members = group.members ++ (group.given, value) ∷ []; given = group.given + 1 }

  -- the group without a ticket's value
  abbrev pub without : Group T → ℕ → Group T
  without group ticket = record group { members = remove_entry (nat_eq ticket) group.members }

  -- the group with another value at a ticket
  abbrev pub with_value_under : Group T → ℕ → T → Group T
  with_value_under group ticket value =
      record group { members = set_value (nat_eq ticket) group.members value }

  -- the new group has this at the ticket, and every other ticket keeps what it had
  pub record Updates (old new : Group T) (ticket : ℕ) (inside : Option T) : Type 0 where
    pub changed : value_under new ticket ≡ inside
    pub others : (other : ℕ) → other ≢ ticket → value_under new other ≡ value_under old other

  -- the tickets rise, the first is no lower than `first`, and all are below `next`
  abbrev pub TicketsRise : ℕ → ℕ → List (ℕ × T) → Type 0
  TicketsRise first next [] = first ≤ next
  TicketsRise first next (member ∷ later) =
      (first ≤ member.0) × TicketsRise (member.0 + 1) next later

  -- what holds of each group: no ticket stands twice, each was given, no more were given than there
  -- are, and a disposed group is empty
  pub record IsSound (group : Group T) : Type 0 where
    pub tickets : TicketsRise 0 group.given group.members
    pub limit : group.given ≤ MAX_TICKETS
    pub emptied : group.disposed ≡ true → group.members ≡ []
