use Rattle.rx_listing.proofs.Common.{Some, take, unwrap_or, nat_eq, get, IsKept}
use Rattle.rx_listing.proofs.past.uses_of.Given as goal

abbrev pub invariant-numbers : goal.invariant-numbers
invariant-numbers l = IsKept (take l.number-index l.numbers) (λ n. Some (unwrap_or (get nat_eq l.seen.uses n) 0)) (get nat_eq l.uses)
