use Rattle.std.proofs.Common.{List, arith, ◌+◌, ◌-◌, ap, subst, length, vec_capacity}
use Rattle.rx_lanes.specs.Chains.{Queued, Frees, AreCells}
use Rattle.rx_lanes.proofs.QueuesShown.{spare_few}
use Rattle.rx_lanes.proofs.CellsGrown.{grown_cells, grown_shows}
use Rattle.rx_lanes.proofs.queues.Queues.grow.Goals as goal

pub overflow_add-self : goal.overflow_add-self
overflow_add-self g c =
    let spare = spare_few c.self.invariant in
    let so_far = c.len-so_far.ensures in
    let few = c.if-more-so_far.false in
    let most = c.self.invariant.few in
    omega (arith, spare, so_far, few, most)

pub invariant_of-self-2 : goal.invariant_of-self-2
invariant_of-self-2 g c =
    let i = c.self.inside in
    let f = subst (λ ns. Frees ns c.free_cells-self-inside.new.next.items i.free c.free_cells-self-inside.result) c.in_ok-reserve_exact.ensures.items
    c.free_cells-self-inside.ensures.frees in
    let many = c.free_cells-self-inside.ensures.length in
    let so_far = c.len-so_far.ensures in
    let few = c.if-more-so_far.false in
    let most = c.self.invariant.few in
    let cells = c.in_ok-lengthen.ensures.ok in
    subst (λ n. AreCells c.lengthen.new.cells.items c.free_cells-self-inside.new.next.items i.ends.items c.free_cells-self-inside.result
    (i.spare + n)) (omega (arith, many, so_far))
    (grown_cells c.self.invariant c.lengthen.new.cells.items f (omega (arith, many, cells)) (omega (arith, many, so_far, few, most)))

pub returns-clause-kept : goal.returns-clause-kept
returns-clause-kept g c =
    let i = c.self.inside in
    let f = subst (λ ns. Frees ns c.free_cells-self-inside.new.next.items i.free c.free_cells-self-inside.result) c.in_ok-reserve_exact.ensures.items
    c.free_cells-self-inside.ensures.frees in
    let many = c.free_cells-self-inside.ensures.length in
    let so_far = c.len-so_far.ensures in
    let few = c.if-more-so_far.false in
    let most = c.self.invariant.few in
    let cells = c.in_ok-lengthen.ensures.ok in
    let queues = grown_shows c.self.invariant c.lengthen.new.cells.items f (omega (arith, many, cells)) (omega (arith, many, so_far, few, most))
    i.blank c.in_ok-lengthen.ensures.same in
    let shown : List (List g.row.E.Denot) → Queued g.row.E.Denot = λ qs. record
    { queues = qs; spare = i.spare + c.args.more; room = vec_capacity i.ends - length i.ends.items } in
    rw (← c.self.view_is) (ap shown queues)
