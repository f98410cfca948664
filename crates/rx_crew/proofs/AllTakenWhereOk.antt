-- Where a verdict is Ok and nothing is left.
use Rattle.rx_crew.proofs.Common.{Result, Ok, Err, List, sym, ◌∙◌, IfOk, Kept, Event, IsLawful, Sums, Receipt, Totals, Mismatch, AllTaken, IsVerdictOnThreads}
use Rattle.rx_event.proofs.Laws.NothingOpenNothingHeld.{taken_count_closed}

pub all_taken : (base : Kept) → (h : List Event) (s : Sums) (receipts : List Receipt) (verdict : Result Totals Mismatch)
    → IsLawful base h → IsVerdictOnThreads base h s receipts verdict → IfOk verdict (λ _. AllTaken h s)
all_taken base h s receipts (Ok totals) law agrees =
    λ closed returned released. agrees.3 ∙ taken_count_closed base h law closed returned released ∙ sym agrees.2
all_taken base h s receipts (Err mismatch) law agrees = tt
