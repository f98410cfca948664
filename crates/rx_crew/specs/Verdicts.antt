-- How a book's totals and the threads' shares and receipts agree.
use Rattle.std.specs.Prelude.{◌≡◌, ◌≢◌, ℕ, ◌<◌, List, Result, Ok, Err, Option, Some, None, length, slice_get}
use Rattle.std.specs.List.{All}
use Rattle.rx_event.specs.declared.event.Event.{Event}
use Rattle.rx_event.specs.Kept.{Kept, event_since}
use Rattle.rx_event.specs.Totals.{open_count, held_count, lease_count, waiting_count, item_count, accepted_count, taken_count}
use Rattle.rx_ledger.specs.declared.ledgers.Sums.{Sums}
use Rattle.rx_ledger.specs.declared.receipt.Receipt.{Receipt as Slip}
use Rattle.rx_crew.specs.declared.finishing.Totals.{Totals}
use Rattle.rx_crew.specs.declared.finishing.Mismatch.{Mismatch}
use Rattle.rx_crew.specs.declared.finishing.Mismatch.TheVariants.{Items, Accepted, Taken, Receipt}

abbrev pub totals_written : Kept → List Event → Totals
totals_written base h = record {
  items = item_count base h;
  accepted = accepted_count base h;
  taken = taken_count base h;
  held = held_count h;
  waiting = waiting_count h;
  len = length h;
}

-- the receipt's event stands at its place, which is not before the base
abbrev pub Stands : Kept → List Event → Slip → Type 0
Stands base h r = event_since base h r.place ≡ Some r.event

-- the first of the receipts whose event does not stand there, and its place
pub record IsFirstWrong (base : Kept) (h : List Event) (receipts : List Slip) (place : ℕ) : Type 0 where
  pub index : ℕ
  pub wrong : Slip
  pub here : slice_get receipts index ≡ Some wrong
  pub before : (k : ℕ) (r : Slip) → k < index → slice_get receipts k ≡ Some r → Stands base h r
  pub fails : event_since base h place ≢ Some wrong.event
  pub place_is : place ≡ wrong.place

abbrev pub FirstWrong : Kept → List Event → List Slip → Option ℕ → Type 0
FirstWrong base h receipts None = All (Stands base h) receipts
FirstWrong base h receipts (Some place) = IsFirstWrong base h receipts place

-- a sum over the seats and a total of the book that differ
abbrev pub Differ : (shares book sum total : ℕ) → Type 0
Differ shares book sum total = (shares ≡ sum) × (book ≡ total) × (shares ≢ book)

-- Ok where all agrees, else the first that does not: the items, the accepted resources, the taken ones, the receipts
abbrev pub IsVerdictOnThreads : Kept → List Event → Sums → List Slip → Result Totals Mismatch → Type 0
IsVerdictOnThreads base h s receipts (Ok totals) =
    (totals ≡ totals_written base h) ×
    (s.items ≡ item_count base h) × (s.accepted ≡ accepted_count base h) × (s.taken ≡ taken_count base h) × All (Stands base h) receipts
IsVerdictOnThreads base h s receipts (Err (Items shares book)) = Differ shares book s.items (item_count base h)
IsVerdictOnThreads base h s receipts (Err (Accepted shares book)) = (s.items ≡ item_count base h) × Differ shares book s.accepted (accepted_count base h)
IsVerdictOnThreads base h s receipts (Err (Taken shares book)) =
    (s.items ≡ item_count base h) × (s.accepted ≡ accepted_count base h) × Differ shares book s.taken (taken_count base h)
IsVerdictOnThreads base h s receipts (Err (Receipt place)) =
    (s.items ≡ item_count base h) × (s.accepted ≡ accepted_count base h) × (s.taken ≡ taken_count base h) × IsFirstWrong base h receipts place

-- where no node is open, no lease is out and nothing waits, each resource that was accepted was taken
abbrev pub AllTaken : List Event → Sums → Type 0
AllTaken h s = open_count h ≡ 0 → lease_count h ≡ 0 → waiting_count h ≡ 0 → s.taken ≡ s.accepted
