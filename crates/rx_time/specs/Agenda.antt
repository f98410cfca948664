-- The inside of a priority queue, which no caller sees: beside its entries it has an agenda, a set of the due times
-- and tickets, in the order in which the entries come out.
use Rattle.std.specs.Prelude.{◌≡◌, ℕ, ◌==◌, Bool, false, List, Option, Some, None, IsSomeAnd, nat_eq}
use Rattle.std.specs.Ordering.{nat_cmp, ordering_then}
use Rattle.std.specs.declared.cmp.Ordering.{Ordering}
use Rattle.std.specs.List.Sorted.{IsStrictlySortedBy}
use Rattle.std.specs.Map.{lookup, keys_of}
use Rattle.std.specs.BTreeSet.{BTreeSet, contains}
use Rattle.rx_time.specs.declared.work.Work.{Work}

-- the order of the agenda: by due time, then by ticket
abbrev pub place_cmp : ℕ × ℕ → ℕ × ℕ → Ordering
place_cmp p q = ordering_then (nat_cmp p.0 q.0) (nat_cmp p.1 q.1)

module _ {T : Type 0} where
  -- whether there is work and it is due then
  abbrev pub is_due_at : ℕ → Option (Work T) → Bool
  is_due_at due None = false
  is_due_at due (Some w) = w.due == due

  -- the agenda has the due time and ticket of each entry, and nothing else
  pub record IsKept (work : List (ℕ × Work T)) (agenda : BTreeSet (ℕ × ℕ)) : Type 0 where
    pub ascending : IsStrictlySortedBy nat_cmp (keys_of work)
    pub same : (due ticket : ℕ) → contains place_cmp agenda (due, ticket)
        ≡ is_due_at due (lookup (nat_eq ticket) work)

  -- the place is the due time and the ticket of this entry of the work, and there is none where there is no entry
  abbrev pub PointsAt : List (ℕ × Work T) → Option (ℕ × Work T) → Option (ℕ × ℕ) → Type 0
  PointsAt work next None = next ≡ None
  PointsAt work next (Some place) =
      IsSomeAnd (lookup (nat_eq place.1) work) (λ w. (w.due ≡ place.0) × (next ≡ Some (place.1, w)))
