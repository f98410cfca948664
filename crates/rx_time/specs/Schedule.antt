-- What a contract sees of a timeline, and which of its entries comes next. A virtual-time scheduler does its
-- work in the order of the due times, and work that is due at one time in the order in which it was scheduled.
use Rattle.std.specs.Prelude.{◌≡◌, ℕ, ◌+◌, ◌<◌, ◌≤◌, max, List, [], ◌∷◌, ◌++◌, Option, Some, None, All, map, nat_eq, nat_le, if◌then◌else◌}
use Rattle.std.specs.Option.{option_map}
use Rattle.std.specs.Map.{lookup, remove_entry, keys_of}
use Rattle.std.specs.List.Sorted.{IsStrictlySortedBy}
use Rattle.std.specs.Ordering.{nat_cmp}
use Rattle.rx_time.specs.declared.work.Work.{Work}

-- the virtual time, how many tickets were given, and under its ticket each entry's work, in order of scheduling
pub record Schedule (T : Type 0) : Type 0 where
  pub clock : ℕ
  pub tickets : ℕ
  pub work : List (ℕ × Work T)

module _ {T : Type 0} where
  abbrev pub schedule : ℕ → ℕ → List (ℕ × Work T) → Schedule T
  schedule clock tickets work = record { clock = clock; tickets = tickets; work = work }

  -- of an entry and the next one after it the one that is due first, and at a tie the one that was scheduled first
  abbrev pub earlier : ℕ × Work T → Option (ℕ × Work T) → Option (ℕ × Work T)
  earlier e None = Some e
  earlier e (Some f) = if nat_le e.1.due f.1.due then Some e else Some f

  -- what comes next: the least due, then the first in order of scheduling
  abbrev pub next_of : List (ℕ × Work T) → Option (ℕ × Work T)
  next_of [] = None
  next_of (e ∷ es) = earlier e (next_of es)

  -- an entry, if it is due at or before this time
  abbrev pub if_due : ℕ → Option (ℕ × Work T) → Option (ℕ × Work T)
  if_due until None = None
  if_due until (Some e) = if nat_le e.1.due until then Some e else None

  -- what comes next, if that is due at or before this time
  abbrev pub next_due : ℕ → List (ℕ × Work T) → Option (ℕ × Work T)
  next_due until work = if_due until (next_of work)

  -- in other words: what was scheduled before it is due later, and what was scheduled after it no earlier
  pub record IsNext (work : List (ℕ × Work T)) (e : ℕ × Work T) : Type 0 where
    pub before : List (ℕ × Work T)
    pub after : List (ℕ × Work T)
    pub place : work ≡ before ++ e ∷ after
    pub later : All (λ f. e.1.due < f.1.due) before
    pub no_earlier : All (λ f. e.1.due ≤ f.1.due) after

  -- one ticket more, and its work last, due now where its own time is past
  abbrev pub with_work : ℕ → T → Schedule T → Schedule T
  with_work due item s =
      schedule s.clock (s.tickets + 1) (s.work ++ (s.tickets, record { due = max due s.clock; item = item }) ∷ [])

  -- the item under a ticket, if there is an entry
  abbrev pub item_of : ℕ → List (ℕ × Work T) → Option T
  item_of ticket work = option_map (λ w. w.item) (lookup (nat_eq ticket) work)

  -- the other entries
  abbrev pub without : ℕ → List (ℕ × Work T) → List (ℕ × Work T)
  without ticket work = remove_entry (nat_eq ticket) work

  -- the items, in order of scheduling
  abbrev pub scheduled_items : List (ℕ × Work T) → List T
  scheduled_items work = map (λ e. e.1.item) work

  -- an entry, and a timeline, with each item seen as another
  abbrev pub entry_seen : {U : Type 0} → (T → U) → ℕ × Work T → ℕ × Work U
  entry_seen f e = (e.0, record { due = e.1.due; item = f e.1.item })

  abbrev pub seen_as : {U : Type 0} → (T → U) → Schedule T → Schedule U
  seen_as f s = record { clock = s.clock; tickets = s.tickets; work = map (entry_seen f) s.work }

  -- what holds of every timeline: the tickets of the entries rise and were given, and nothing is overdue
  pub record IsSound (s : Schedule T) : Type 0 where
    pub ascending : IsStrictlySortedBy nat_cmp (keys_of s.work)
    pub given : All (λ e. e.0 < s.tickets) s.work
    pub ahead : All (λ e. s.clock ≤ e.1.due) s.work
