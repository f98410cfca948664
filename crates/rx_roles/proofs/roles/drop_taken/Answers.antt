use Rattle.std.proofs.Common.{◌≡◌, ap, ◌∙◌, arith, length, suc, ◌-◌, ◌<◌}
use Rattle.rx_roles.specs.declared.roles.Row.{Row}
use Rattle.rx_roles.specs.RolesByNumber.{roles_in}
use Rattle.rx_roles.proofs.RowsShowRoles.{read_as, cut_shows, said_none}
use Rattle.rx_roles.proofs.roles.drop_taken.Goals as goal

pub returns-then-is_none-clause-same : goal.returns-then-is_none-clause-same
returns-then-is_none-clause-same c =
    let rows = c.args.rows.now.items in
    let last = c.len-many.result - 1 in
    let some = c.if-many-gt0.true in
    let many = c.len-many.ensures in
    let long = c.args.rows.now.ok.0 in
    let within : last < length rows = omega (arith, some, many, long) in
    let all : length rows ≡ suc last = omega (arith, some, many, long) in
    ap roles_in c.truncate.ensures.items
    ∙ cut_shows rows last all (ap (λ (r : Row). r.said) (read_as rows last c.index.result.now within c.index.ensures) ∙ said_none _ c.if-is_none.ensures)
