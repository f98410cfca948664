-- What follows from a verdict: with all parts and no receipt it is Ok, and an Ok has the book's totals.
use Rattle.rx_crew.proofs.Common.{◌≡◌, ◌+◌, ℕ, Result, Ok, Err, Some, None, List, refl, sym, ap, ◌∙◌, arith, IsOk, IfOk, Kept, Event, Sums, Totals, Mismatch}
use Rattle.rx_crew.proofs.Common.{sums_of, IsVerdictOnThreads}
use Rattle.rx_event.proofs.Laws.Common.{[], slice_get_past, held_count, waiting_count}
use Rattle.rx_ledger.specs.declared.receipt.Receipt.{Receipt as Slip}
use Rattle.rx_crew.specs.declared.finishing.Mismatch.TheVariants.{Items, Accepted, Taken, Receipt}

pub agreed : (base : Kept) → (h : List Event) (s : Sums) (verdict : Result Totals Mismatch) → s ≡ sums_of base h → IsVerdictOnThreads base h s [] verdict
    → IsOk verdict
agreed base h s (Ok totals) same is = refl
agreed base h s (Err (Items shares book)) same is = absurd (is.2 (is.0 ∙ ap (λ (x : Sums). x.items) same ∙ sym is.1))
agreed base h s (Err (Accepted shares book)) same is = let d = is.1 in absurd (d.2 (d.0 ∙ ap (λ (x : Sums). x.accepted) same ∙ sym d.1))
agreed base h s (Err (Taken shares book)) same is = let d = is.2 in absurd (d.2 (d.0 ∙ ap (λ (x : Sums). x.taken) same ∙ sym d.1))
agreed base h s (Err (Receipt place)) same is =
    let w = is.3 in
    let gone : None ≡ Some w.wrong = sym (slice_get_past {X = Slip} [] w.index (omega arith)) ∙ w.here in
    cc

pub released_at_the_end : (base : Kept) → (h : List Event) (s : Sums) (receipts : List Slip) (verdict : Result Totals Mismatch) (released : ℕ)
    → IsVerdictOnThreads base h s receipts verdict → released ≡ held_count h + waiting_count h → IfOk verdict (λ t. released ≡ t.held + t.waiting)
released_at_the_end base h s receipts (Ok totals) released is all = all ∙ ap (λ (t : Totals). t.held + t.waiting) (sym is.0)
released_at_the_end base h s receipts (Err e) released is all = tt
