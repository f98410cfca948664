-- Counts over a history.
use Rattle.std.specs.Prelude.{◌+◌, ◌-◌, ◌&&◌, if◌then◌else◌}
use Rattle.rx_event.specs.Imports.{ℕ, List, count_by, sum_by, Event}
use Rattle.rx_event.specs.Kept.{Kept, shown}
use Rattle.rx_event.specs.Events.{is_item, is_take, is_connect, makes_resource, is_merging}
use Rattle.rx_event.specs.Tree.{at, places, is_open}
use Rattle.rx_event.specs.Resources.{is_owned, is_out, is_held, is_waiting}
use Rattle.rx_event.specs.Moments.{owed}

abbrev pub item_count : Kept → List Event → ℕ
item_count b h = b.items + count_by is_item h

abbrev pub accepted_count : Kept → List Event → ℕ
accepted_count b h = (b.accepted - count_by makes_resource (shown b)) + count_by makes_resource h

abbrev pub taken_count : Kept → List Event → ℕ
taken_count b h = b.taken + count_by is_take h

-- how often a hub was connected
abbrev pub connect_count : List Event → ℕ
connect_count h = count_by is_connect h

abbrev pub owned_count : List Event → ℕ
owned_count h = count_by (is_owned h) (places h)

abbrev pub held_count : List Event → ℕ
held_count h = count_by (is_held h) (places h)

abbrev pub waiting_count : List Event → ℕ
waiting_count h = count_by (is_waiting h) (places h)

-- the leases that are out
abbrev pub lease_count : List Event → ℕ
lease_count h = count_by (is_out h) (places h)

abbrev pub open_count : List Event → ℕ
open_count h = count_by (is_open h) (places h)

-- what n owes, where it is an open FlatMap or Switch
abbrev pub owed_open : Kept → List Event → ℕ → ℕ
owed_open b h n = if is_open h n && at is_merging h n then owed b h n else 0

-- what all open FlatMaps and Switches owe together
abbrev pub owed_count : Kept → List Event → ℕ
owed_count b h = sum_by (owed_open b h) (places h)

-- what a resource may still need: its removal and its taking where it is owned, its taking where leases alone hold it or it waits
abbrev pub kept_debt : List Event → ℕ → ℕ
kept_debt h r = if is_owned h r then 2 else (if is_held h r then 1 else (if is_waiting h r then 1 else 0))

-- the events that the closing of what n made may still need: one for an open node, those of a resource, one for a lease that is out
-- (its return), and one for each projected item that a FlatMap or Switch still owes
abbrev pub debt_of : Kept → List Event → ℕ → ℕ
debt_of b h n = (if is_open h n then 1 else 0) + kept_debt h n + (if is_out h n then 1 else 0) + (if is_open h n && at is_merging h n then owed b h n else 0)

-- the events that the closing of everything may still need
unfoldable pub debt : Kept → List Event → ℕ
debt b h = sum_by (debt_of b h) (places h)
