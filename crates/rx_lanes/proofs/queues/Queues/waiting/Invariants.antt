use Rattle.std.proofs.Common.{◌+◌, length}
use Rattle.rx_lanes.specs.Chains.{queue_at}
use Rattle.rx_lanes.proofs.ListsWalked.{WalksTo, to_go}
use Rattle.rx_lanes.proofs.queues.Queues.waiting.Given as goal

abbrev pub invariant-loop-cell : goal.invariant-loop-cell
invariant-loop-cell g l = WalksTo l.self-inside.next.items l.cell l.many (l.so_far + length (queue_at l.self l.queue))

abbrev pub decreases-loop-cell : goal.decreases-loop-cell
decreases-loop-cell g l = to_go l.self-inside.next.items l.cell
