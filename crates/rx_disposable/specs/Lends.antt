-- What a place ends as, where a `&mut` to a value inside is returned.
use Rattle.std.specs.Prelude.{ℕ, Option, Some}
use Rattle.std.specs.Borrow.{LendsIf, Fml, RattleType, MutBor}
use Rattle.rx_disposable.specs.Counted.{Counted}
use Rattle.rx_disposable.specs.Group.{Group, with_value_under}
use Rattle.rx_disposable.specs.contracts.counted.Counted as counted
use Rattle.rx_disposable.specs.contracts.group.Group as group

-- once the borrow ends, the value is the last one written through it, and at `None` nothing changed
abbrev pub LendsValue : (T : RattleType) → MutBor (Counted T.Denot) → Option (MutBor T.Denot) → Fml
LendsValue T place result =
    LendsIf (counted.the_row T) T place result (λ value. record place.now { value = Some value }) place.now

-- once the borrow ends, the ticket has the last value written through it, and at `None` nothing changed
abbrev pub LendsMember :
    (T : RattleType) → MutBor (Group T.Denot) → ℕ → Option (MutBor T.Denot) → Fml
LendsMember T lender ticket result =
    LendsIf (group.the_row T) T lender result (with_value_under lender.now ticket) lender.now
