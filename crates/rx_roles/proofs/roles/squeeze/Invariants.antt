use Rattle.std.proofs.Common.{◌≡◌, ℕ, ◌≤◌, length, take}
use Rattle.rx_roles.specs.RolesByNumber.{row_at, live_rows}
use Rattle.rx_roles.proofs.roles.squeeze.Given as goal

abbrev pub invariant-loop-at : goal.invariant-loop-at
invariant-loop-at l = record {
  before : l.kept ≤ l.at;
  long : length l.rows.items ≡ length l.initial.rows.items;
  live : take l.kept l.rows.items ≡ live_rows (take l.at l.initial.rows.items);
  rest : (i : ℕ) → l.at ≤ i → row_at l.rows.items i ≡ row_at l.initial.rows.items i;
}
