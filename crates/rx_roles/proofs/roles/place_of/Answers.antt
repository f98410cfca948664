use Rattle.std.proofs.Common.{ap, arith, rules, tests, length, ◌<◌, ◌≤◌}
use Rattle.rx_roles.specs.declared.roles.Row.{Row}
use Rattle.rx_roles.proofs.RowsShowRoles.{read_as, all_below, all_above, no_place}
use Rattle.rx_roles.proofs.roles.place_of.Goals as goal
use Rattle.rx_roles.proofs.roles.place_of.Goals.{then-step-high, else-step-high}

pub loop-low-preserved-then-here-number-2 : goal.loop-low-preserved-then-here-number-2
loop-low-preserved-then-here-number-2 c =
    let rows = c.args.rows.now.items in
    let low = c.loop-low.low in let high = c.loop-low.high in let middle = c.if-step-high.middle in
    let i = c.loop-low.invariant in
    let test = c.loop-low-test.true in let steps = i.steps in let inside = i.inside in
    let below : middle < high = elim c.if-step-high.branch [
      | then-step-high w ↦ (let is = w.middle-is in let short = w.if-step-high.true in omega (arith, is, short, steps, test))
      | else-step-high w ↦ (let is = w.middle-is in omega (arith, is, test))
    ] in
    let within : middle < length rows = omega (arith, below, inside) in
    let row = ap (λ (r : Row). r.number) (read_as rows middle c.index.result.now within c.index.ensures) in
    let less = c.if-here-number-2.true in
    record {
      ordered = omega (arith, below);
      inside = inside;
      steps = omega arith;
      before = all_below rows middle c.args.number c.requires within (omega (arith, row, less));
      behind = i.behind;
    }

pub loop-low-preserved : goal.loop-low-preserved
loop-low-preserved c =
    let rows = c.args.rows.now.items in
    let low = c.loop-low.low in let high = c.loop-low.high in let middle = c.if-step-high.middle in
    let i = c.loop-low.invariant in
    let test = c.loop-low-test.true in let steps = i.steps in let inside = i.inside in
    let below : middle < high = elim c.if-step-high.branch [
      | then-step-high w ↦ (let is = w.middle-is in let short = w.if-step-high.true in omega (arith, is, short, steps, test))
      | else-step-high w ↦ (let is = w.middle-is in omega (arith, is, test))
    ] in
    let from : low ≤ middle = elim c.if-step-high.branch [
      | then-step-high w ↦ (let is = w.middle-is in let short = w.if-step-high.true in omega (arith, is, short))
      | else-step-high w ↦ (let is = w.middle-is in omega (arith, is))
    ] in
    let within : middle < length rows = omega (arith, below, inside) in
    let row = ap (λ (r : Row). r.number) (read_as rows middle c.index.result.now within c.index.ensures) in
    let other = c.if-here-number.false in
    let not_less = c.if-here-number-2.false in
    record {
      ordered = from;
      inside = omega (arith, below, inside);
      steps = search (rules, tests);
      before = i.before;
      behind = all_above rows middle c.args.number c.requires (omega (arith, row, other, not_less));
    }

pub returns-clause-none : goal.returns-clause-none
returns-clause-none c =
    let rows = c.args.rows.now.items in
    let i = c.loop-low.invariant in
    let ends = c.loop-low-test.false in let ordered = i.ordered in
    no_place rows c.loop-low.low c.args.number i.before (λ j l b. i.behind j (omega (arith, l, ends, ordered)) b)
