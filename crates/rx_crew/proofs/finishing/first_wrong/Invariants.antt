use Rattle.rx_crew.proofs.Common.{◌≡◌, ℕ, ◌<◌, slice_get, Some, Receipt, Stands}
use Rattle.rx_crew.proofs.finishing.first_wrong.Given as goal

-- the receipts so far stand
abbrev pub invariant-loop-receipt : goal.invariant-loop-receipt
invariant-loop-receipt g l = (k : ℕ) (r : Receipt) → k < l.receipt-index → slice_get l.receipts k ≡ Some r → Stands l.book.base l.book.history r
