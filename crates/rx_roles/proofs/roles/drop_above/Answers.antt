use Rattle.std.proofs.Common.{ap, arith, length, ◌<◌, ◌-◌}
use Rattle.rx_roles.specs.declared.roles.Row.{Row}
use Rattle.rx_roles.proofs.RowsShowRoles.{read_as, all_below}
use Rattle.rx_roles.proofs.roles.drop_above.Goals as goal

pub returns-then-index-number-clause-below : goal.returns-then-index-number-clause-below
returns-then-index-number-clause-below c =
    let rows = c.args.rows.now.items in
    let many = c.len-many.ensures in
    let long = c.args.rows.now.ok.0 in
    let some = c.if-many-eq0.false in
    let within : c.len-many.result - 1 < length rows = omega (arith, some, many, long) in
    let row = ap (λ (r : Row). r.number) (read_as rows (c.len-many.result - 1) c.index.result.now within c.index.ensures) in
    let less = c.if-index-number.true in
    λ i b. all_below rows (c.len-many.result - 1) c.args.number c.requires.rising within (omega (arith, row, less)) i (omega (arith, b, many, some))
