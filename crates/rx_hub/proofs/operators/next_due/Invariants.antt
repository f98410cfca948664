use Rattle.rx_hub.proofs.Common.{◌≡◌, length, IsChained, from_due}
use Rattle.rx_hub.proofs.operators.next_due.Given as goal

abbrev pub invariant-loop-node : goal.invariant-loop-node
invariant-loop-node g l = (l.tree ≡ record l.initial.tree { chain = l.tree.chain }) ×
    (from_due l.initial.tree.nodes l.initial.tree.chain ≡ from_due l.initial.tree.nodes l.tree.chain) × IsChained l.initial.tree.nodes l.tree.chain

abbrev pub decreases-loop-node : goal.decreases-loop-node
decreases-loop-node g l = length l.tree.chain
