use Rattle.std.proofs.Common.{◌≡◌, sym, ap, subst, ◌∙◌, arith, ℕ, suc, ◌+◌, List, ◌++◌, ◌∷◌, [], take, take_all, take-suc}
use Rattle.rx_roles.specs.declared.roles.Row.{Row}
use Rattle.rx_roles.specs.RolesByNumber.{row_at, taken_row, roles_in, live_rows, IsRising}
use Rattle.rx_roles.proofs.RowsShowRoles.{live_pushed, live_shows, live_rises}
use Rattle.rx_roles.proofs.roles.squeeze.Goals as goal

pub loop-at-preserved : goal.loop-at-preserved
loop-at-preserved c =
    let i = c.loop-at.invariant in
    let k = c.keep_row-kept.ensures in
    let old = c.args.rows.now.items in
    let at = c.loop-at.at in
    let test = c.loop-at-test.true in
    let long = i.long in
    let next : at + 1 ≡ suc at = omega arith in
    record {
      before = k.before;
      long = k.long ∙ i.long;
      live = k.live ∙ ap (λ (xs : List Row). xs ++ live_rows (row_at c.loop-at.rows.items at ∷ [])) i.live
          ∙ ap (λ (r : Row). live_rows (take at old) ++ live_rows (r ∷ [])) (i.rest at (omega arith))
          ∙ sym (live_pushed (take at old) (row_at old at))
          ∙ ap live_rows (sym (take-suc old at (taken_row 0) (omega (arith, test, long))))
          ∙ ap (λ (n : ℕ). live_rows (take n old)) (sym next);
      rest = λ j l. k.rest j l ∙ i.rest j (omega (arith, l));
    }

pub returns-clause-same : goal.returns-clause-same
returns-clause-same c =
    let i = c.loop-at.invariant in
    let old = c.args.rows.now.items in
    ap roles_in (c.truncate.ensures.items ∙ i.live ∙ ap live_rows (take_all c.loop-at.at old (omega arith))) ∙ live_shows old

pub returns-clause-rising : goal.returns-clause-rising
returns-clause-rising c =
    let i = c.loop-at.invariant in
    let old = c.args.rows.now.items in
    subst IsRising (sym (c.truncate.ensures.items ∙ i.live ∙ ap live_rows (take_all c.loop-at.at old (omega arith)))) (live_rises old c.requires)
