use Rattle.std.proofs.Common.{◌≡◌, sym, ap, subst, ◌∙◌, arith, ℕ, List, length, length-take-le, take, suc, ◌-◌, ◌<◌}
use Rattle.rx_roles.specs.declared.roles.Row.{Row}
use Rattle.rx_roles.specs.RolesByNumber.{row_at, roles_in}
use Rattle.rx_roles.proofs.RowsShowRoles.{read_as, cut_again, cut_below}
use Rattle.rx_roles.proofs.roles.cut_above.Goals as goal
use Rattle.rx_roles.proofs.roles.cut_above.Goals.{then-loop-many-test+else-index-number, else-loop-many-test}

pub loop-many-preserved : goal.loop-many-preserved
loop-many-preserved c =
    let rows = c.args.rows.now.items in
    let last = c.loop-many.many - 1 in
    let some = c.loop-many-test.true in
    let fits = c.loop-many.invariant.within in
    let within : last < length rows = omega (arith, some, fits) in
    let next : suc last ≡ c.loop-many.many = omega (arith, some) in
    let row = ap (λ (r : Row). r.number) (read_as rows last c.index.result.now within c.index.ensures) in
    let high = c.if-index-number.true in
    record {
      within = omega (arith, fits);
      same = cut_again rows last c.args.number c.requires.rising within c.requires.below (omega (arith, row, high))
          (ap (λ (n : ℕ). roles_in (take n rows)) next ∙ c.loop-many.invariant.same);
    }

pub returns-clause-below : goal.returns-clause-below
returns-clause-below c =
    let rows = c.args.rows.now.items in
    let many = c.loop-many.many in
    let fits = c.loop-many.invariant.within in
    let last : 0 < many → (row_at rows (many - 1)).number < c.args.number = elim c.loop-many-test.branch [
      | then-loop-many-test+else-index-number w ↦ (λ some.
          let within : many - 1 < length rows = omega (arith, some, fits) in
          let row = ap (λ (r : Row). r.number) (read_as rows (many - 1) w.index.result.now within w.index.ensures) in
          let low = w.if-index-number.false in omega (arith, row, low))
      | else-loop-many-test w ↦ (λ some. let none = w.loop-many-test.false in absurd (omega (arith, some, none)))
    ] in
    subst (λ (xs : List Row). (i : ℕ) → i < length xs → (row_at xs i).number < c.args.number) (sym c.truncate.ensures.items)
    (cut_below rows many c.args.number c.requires.rising fits (length-take-le many rows fits) last)
