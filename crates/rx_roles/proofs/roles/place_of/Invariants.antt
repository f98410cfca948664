-- What lies before is too low, and what lies behind is too high.
use Rattle.std.proofs.Common.{ℕ, ◌<◌, ◌≤◌, ◌-◌, length}
use Rattle.rx_roles.specs.RolesByNumber.{row_at}
use Rattle.rx_roles.proofs.roles.place_of.Given as goal

abbrev pub invariant-loop-low : goal.invariant-loop-low
invariant-loop-low l = record {
  ordered : l.low ≤ l.high;
  inside : l.high ≤ length l.rows.items;
  steps : 0 < l.step;
  before : (i : ℕ) → i < l.low → (row_at l.rows.items i).number < l.number;
  behind : (i : ℕ) → l.high ≤ i → i < length l.rows.items → l.number < (row_at l.rows.items i).number;
}

abbrev pub decreases-loop-low : goal.decreases-loop-low
decreases-loop-low l = l.high - l.low
