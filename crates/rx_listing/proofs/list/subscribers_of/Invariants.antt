use Rattle.rx_listing.proofs.Common.{◌≡◌, ℕ, count_by, take, unwrap_or, nat_eq, get, subscribes}
use Rattle.rx_listing.proofs.list.subscribers_of.Given as goal

abbrev pub invariant-numbers : goal.invariant-numbers
invariant-numbers g l =
    (hub : ℕ) → unwrap_or (get nat_eq l.subscribers hub) 0 ≡ count_by (subscribes l.book l.known hub) (take l.number-index l.number-items)
