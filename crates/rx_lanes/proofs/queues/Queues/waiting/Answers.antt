use Rattle.std.proofs.Common.{◌+◌, ◌<◌, subst, sym, arith, length}
use Rattle.std.proofs.lemmas.List.{get_or_read}
use Rattle.rx_lanes.specs.declared.queues.Ends.{Ends}
use Rattle.rx_lanes.specs.Chains.{no_cell, queue_at}
use Rattle.rx_lanes.proofs.QueuesShown.{is_queue, queue_of}
use Rattle.rx_lanes.proofs.ListsWalked.{WalksTo, to_go, walk_starts, walk_within, walk_steps, walk_shorter, walk_ends}
use Rattle.rx_lanes.proofs.queues.Queues.waiting.Goals as goal

pub loop-cell-init : goal.loop-cell-init
loop-cell-init g c =
    let i = c.self.inside in
    let first = get_or_read i.ends.items c.args.queue c.index.result.now (is_queue _ i.ends.items (rw (← c.self.view_is) at c.requires.queue))
    c.index.ensures _ in
    rw (← c.self.view_is) (subst (λ (e : Ends). WalksTo i.next.items e.first c.args.so_far
    (c.args.so_far + length (queue_of i.blank i.cells.items i.next.items i.ends.items c.args.queue))) (sym first)
    (walk_starts i.blank c.self.invariant c.args.queue c.args.so_far c.ranges.so_far.fits))

pub index-cell-requires : goal.index-cell-requires
index-cell-requires g c = let below = walk_within c.loop-cell.invariant c.loop-cell-test.true in omega (arith, below)

pub loop-cell-smaller : goal.loop-cell-smaller
loop-cell-smaller g c =
    let i = c.self.inside in
    let follows = get_or_read i.next.items c.loop-cell.cell c.index-cell.result.now
    (walk_within {sum = c.args.so_far + length (queue_at c.args.self.now c.args.queue)} c.loop-cell.invariant c.loop-cell-test.true)
    c.index-cell.ensures no_cell in
    subst (λ n. to_go i.next.items n < to_go i.next.items c.loop-cell.cell) (sym follows)
    (walk_shorter c.self.invariant.few c.loop-cell.invariant c.loop-cell-test.true)

pub loop-cell-preserved : goal.loop-cell-preserved
loop-cell-preserved g c =
    let follows = get_or_read c.self.inside.next.items c.loop-cell.cell c.index-cell.result.now
    (walk_within c.loop-cell.invariant c.loop-cell-test.true) c.index-cell.ensures no_cell in
    subst (λ n. WalksTo c.self.inside.next.items n c.saturating_add-many.result (c.args.so_far + length (queue_at c.args.self.now c.args.queue)))
    (sym follows)
    (walk_steps c.saturating_add-many.result c.loop-cell.invariant c.loop-cell-test.true c.saturating_add-many.ensures)

pub returns : goal.returns
returns g c = walk_ends c.self.invariant.few c.loop-cell.invariant c.loop-cell-test.false
