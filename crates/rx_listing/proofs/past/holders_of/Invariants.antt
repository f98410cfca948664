use Rattle.rx_listing.proofs.Common.{take, nat_eq, get, IsKept, holder_by}
use Rattle.rx_listing.proofs.past.holders_of.Given as goal

abbrev pub invariant-numbers : goal.invariant-numbers
invariant-numbers g l = IsKept (take l.number-index l.numbers) (holder_by l.book l.past) (get nat_eq l.holders)
