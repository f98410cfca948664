-- What calls count, in all and for the seat that they are made with.
use Rattle.std.specs.Prelude.{◌≡◌, ◌+◌, ◌<◌, List, Result, Option, OnOk, OnErr, IfSome, IfNone}
use Rattle.rx_event.specs.Kept.{Kept}
use Rattle.rx_event.specs.declared.event.Event.{Event}
use Rattle.rx_event.specs.Calls.{Call, OpeningUsing, Holding, Emitting, Taking}
use Rattle.rx_event.specs.Totals.{item_count, accepted_count, taken_count}
use Rattle.rx_ledger.specs.declared.ledgers.Sums.{Sums}
use Rattle.rx_ledger.specs.Shares.{Shares, sums_in}

-- the totals of a history
abbrev pub sums_of : Kept → List Event → Sums
sums_of base h = record { items = item_count base h; accepted = accepted_count base h; taken = taken_count base h }

-- each total is one that a thread can count
pub record AreCountable (s : Sums) : Type 0 where
  pub items : s.items < 18446744073709551616
  pub accepted : s.accepted < 18446744073709551616
  pub taken : s.taken < 18446744073709551616

-- what an accepted call adds: an item counts by one, a resource that is handed in and one that is taken out, and nothing else
abbrev pub counting : Call → Sums → Sums
counting (Emitting leaf value) s = record s { items = s.items + 1 }
counting (OpeningUsing place tag) s = record s { accepted = s.accepted + 1 }
counting (Holding node tag) s = record s { accepted = s.accepted + 1 }
counting (Taking r) s = record s { taken = s.taken + 1 }
counting _ s = s

-- the seat after an accepted call that was made with it
abbrev pub seat_after : Call → Shares → Shares
seat_after call s = let sums = counting call (sums_in s) in record { parts = s.parts; items = sums.items; accepted = sums.accepted; taken = sums.taken }

-- the seat counts an accepted call, and no refused one
pub record Counts {A E : Type 0} (call : Call) (old new : Shares) (answer : Result A E) : Type 0 where
  pub counted : OnOk answer (new ≡ seat_after call old)
  pub uncounted : OnErr answer (new ≡ old)

-- the seat counts a resource that it takes out
pub record CountsTaken {T : Type 0} (old new : Shares) (answer : Option T) : Type 0 where
  pub counted : IfSome answer (λ _. new ≡ record old { taken = old.taken + 1 })
  pub uncounted : IfNone answer (new ≡ old)
