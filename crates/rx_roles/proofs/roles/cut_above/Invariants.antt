use Rattle.std.proofs.Common.{◌≡◌, ◌≤◌, length, take}
use Rattle.rx_roles.specs.RolesByNumber.{roles_in}
use Rattle.rx_roles.proofs.roles.cut_above.Given as goal

abbrev pub invariant-loop-many : goal.invariant-loop-many
invariant-loop-many l = record {
  within : l.many ≤ length l.rows.items;
  same : roles_in (take l.many l.rows.items) ≡ roles_in l.initial.rows.items;
}

abbrev pub decreases-loop-many : goal.decreases-loop-many
decreases-loop-many l = l.many
