use Rattle.std.proofs.Common.{sym, ap, ◌∙◌, arith, length, is_some}
use Rattle.rx_roles.specs.declared.roles.Row.{Row}
use Rattle.rx_roles.specs.Roles.{without}
use Rattle.rx_roles.specs.RolesByNumber.{roles_in}
use Rattle.rx_roles.proofs.RowsShowRoles.{read_as, taken, taken_rises, taken_some}
use Rattle.rx_roles.proofs.roles.take_at.Goals as goal

pub returns-then-is_none-clause-same : goal.returns-then-is_none-clause-same
returns-then-is_none-clause-same c =
    let rows = c.args.rows.now.items in
    let is = ap (λ (r : Row). r.number) (read_as rows c.args.place c.index.result.now c.requires.within c.index.ensures) in
    taken rows c.args.place c.index.result.now.number c.requires.kept.rising c.requires.within is ∙ ap (without (roles_in rows)) (sym is)

pub overflow_sub-result : goal.overflow_sub-result
overflow_sub-result c =
    let rows = c.args.rows.now.items in
    let row = read_as rows c.args.place c.index.result.now c.requires.within c.index.ensures in
    let one = taken_some rows c.args.place c.index.result.now.number c.requires.kept.rising c.requires.within (ap (λ (r : Row). r.number) row)
    (ap (λ (r : Row). is_some r.said) row ∙ c.if-is_none.ensures) in
    let counted = c.requires.kept.counted in omega (arith, one, counted)

pub returns-clause-same : goal.returns-clause-same
returns-clause-same c =
    let rows = c.args.rows.now.items in
    let is = ap (λ (r : Row). r.number) (read_as rows c.args.place c.index.result.now c.requires.within c.index.ensures) in
    taken rows c.args.place c.index.result.now.number c.requires.kept.rising c.requires.within is ∙ ap (without (roles_in rows)) (sym is)

pub returns-clause-kept : goal.returns-clause-kept
returns-clause-kept c =
    let rows = c.args.rows.now.items in
    let n = c.index.result.now.number in
    let row = read_as rows c.args.place c.index.result.now c.requires.within c.index.ensures in
    let is = ap (λ (r : Row). r.number) row in
    let one = taken_some rows c.args.place n c.requires.kept.rising c.requires.within is (ap (λ (r : Row). is_some r.said) row ∙ c.if-is_none.ensures) in
    let same = ap length (taken rows c.args.place n c.requires.kept.rising c.requires.within is) in
    let counted = c.requires.kept.counted in
    record {
      rising = taken_rises rows c.args.place n c.requires.kept.rising c.requires.within is;
      counted = omega (arith, one, same, counted);
    }
