use Rattle.rx_storm.proofs.Common.{◌≡◌, [], ap₂, arith, if◌then◌else◌, count_up}
use Rattle.rx_storm.proofs.CountUp.{count_up_ends}
use Rattle.rx_storm.proofs.Emission.{fed_whole, turns_left}
use Rattle.rx_storm.proofs.threads.emit_all.Goals as goal

pub feed-requires-after_bounds : goal.feed-requires-after_bounds
feed-requires-after_bounds g c κs within = rw c.below-numbers.ensures.2 (count_up_ends c.below-numbers.result.next c.below-numbers.result.left)

pub returns-clause-done : goal.returns-clause-done
returns-clause-done g c =
    let source = c.below-numbers.result in
    let pulls : (if source.is_done then [] else count_up source.next source.left) ≡ count_up 0 c.args.items =
    rw c.below-numbers.ensures.2 (ap₂ count_up c.below-numbers.ensures.0 c.below-numbers.ensures.1) in
    fed_whole c.in_ok-leaf.leaf.number c.args.items _ _ _ _ c.args.seat _ _ _ _
    pulls c.feed.ensures.receipts c.feed.ensures.stop c.in_ok-leaf.ensures c.feed.ensures.shares

pub returns-clause-turns : goal.returns-clause-turns
returns-clause-turns g c =
    let source = c.below-numbers.result in
    let pulls : (if source.is_done then [] else count_up source.next source.left) ≡ count_up 0 c.args.items =
    rw c.below-numbers.ensures.2 (ap₂ count_up c.below-numbers.ensures.0 c.below-numbers.ensures.1) in
    turns_left c.args.items _ _ _ _ _ pulls c.feed.ensures.stop (omega arith)
