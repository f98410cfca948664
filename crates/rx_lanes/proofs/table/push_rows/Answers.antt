use Rattle.std.proofs.Common.{◌∙◌, ◌+◌, ◌++◌, ◌∷◌, [], sym, ap, subst, arith, List, Option, None, length, length-append}
use Rattle.rx_lanes.specs.declared.table.Row.{Row}
use Rattle.rx_lanes.specs.Rows.{no_row, Pushes}
use Rattle.rx_lanes.proofs.RowsShowLanes.{pushes_more}
use Rattle.rx_lanes.proofs.table.push_rows.Goals as goal

pub loop-preserved : goal.loop-preserved
loop-preserved g c =
    let i = c.loop.invariant in
    let a = c.args in
    let rows = ap length c.push_reserved.ensures.items ∙ length-append c.loop.rows.items (no_row ∷ []) in
    let returned = ap length c.push_reserved-in-loop.ensures.items ∙ length-append c.loop.returned.items (None ∷ []) in
    record {
      pushes = subst (λ (rs : List Row). Pushes a.rows.now.items rs a.returned.now.items c.push_reserved-in-loop.new.self.items a.queues.now
          c.add-in-loop.new.self (c.loop.counter + 1)) (sym c.push_reserved.ensures.items)
          (subst (λ (ts : List (Option g.row.E.Denot)). Pushes a.rows.now.items (c.loop.rows.items ++ no_row ∷ []) a.returned.now.items ts
          a.queues.now c.add-in-loop.new.self (c.loop.counter + 1)) (sym c.push_reserved-in-loop.ensures.items)
          (pushes_more c.add.new.self c.add-in-loop.new.self c.loop.counter i.pushes c.add.ensures.queues c.add.ensures.spare
          c.add-in-loop.ensures.queues c.add-in-loop.ensures.spare));
      rows_fit = omega (arith, rows, i.rows_fit, c.loop-test.true, c.push_reserved.ensures.capacity);
      returned_fit = omega (arith, returned, i.returned_fit, c.loop-test.true, c.push_reserved-in-loop.ensures.capacity);
      queues_fit = omega (arith, i.queues_fit, c.loop-test.true, c.add.ensures.room, c.add-in-loop.ensures.room);
    }
