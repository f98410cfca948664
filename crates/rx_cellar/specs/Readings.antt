-- What an engine has, and its history, as they cross.
use Rattle.std.specs.Prelude.{◌≡◌, ℕ, ◌-◌, length, Option, Some, None}
use Rattle.rx_event.specs.declared.event.Event.{Event as BookEvent}
use Rattle.rx_event.specs.Kept.{event_since}
use Rattle.rx_event.specs.Totals.{open_count, held_count, lease_count, accepted_count, taken_count}
use Rattle.rx_lanes.specs.Reports.{waiting, at_most_all}
use Rattle.rx_cellar.specs.EventsShown.{event_of, no_event}
use Rattle.rx_cellar.specs.declared.reading.Totals.{Totals}
use Rattle.rx_cellar.specs.declared.reading.Event.{Event}
use Rattle.rx_cellar.specs.declared.cellar.Cellar.{Cellar}

-- what waits is what the book handed out and nobody was told of yet
abbrev pub totals_of : Cellar → Totals
totals_of s = let b = s.engine.book in record {
  nodes = open_count b.history;
  held = held_count b.history;
  waiting = taken_count b.base b.history - s.released;
  leases = lease_count b.history;
  accepted = accepted_count b.base b.history;
  taken = s.released;
  events = length b.history;
  effects = at_most_all (waiting s.engine.parts.lanes);
}

abbrev pub no_totals : Totals
no_totals = record { nodes = 0; held = 0; waiting = 0; leases = 0; accepted = 0; taken = 0; events = 0; effects = 0 }

abbrev pub IsEventIf : Option BookEvent → Event → (status : ℕ) → Type 0
IsEventIf None e status = (e ≡ no_event) × (status ≡ 2)
IsEventIf (Some there) e status = (e ≡ event_of there) × (status ≡ 0)

-- the event at a place since the last checkpoint
abbrev pub IsEventTold : (place : ℕ) → Cellar → Event → (status : ℕ) → Type 0
IsEventTold place s e status = IsEventIf (event_since s.engine.book.base s.engine.book.history place) e status
