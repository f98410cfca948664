use Rattle.rx_tree.proofs.Common.{◌-◌, ◌^◌, IsSome, find, Descends, nodes_of}
use Rattle.rx_tree.proofs.store.Store.leaf_below.Given as goal

abbrev pub invariant-loop-child : goal.invariant-loop-child
invariant-loop-child g l = record {
  below : Descends (nodes_of l.fn.self) l.fn.key l.leaf;
  there : IsSome (find (nodes_of l.fn.self) l.leaf);
}

abbrev pub decreases-loop-child : goal.decreases-loop-child
decreases-loop-child g l = 2 ^ 64 - l.leaf.number
