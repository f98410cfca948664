use Rattle.rx_tree.proofs.Common.{◌≡◌, ◌+◌, IsSome, vec_len, vec_capacity, find, Descends, IsCutting, nodes_of, IsCounted}
use Rattle.rx_tree.proofs.tree.Tree.close_below.Given as goal

abbrev pub invariant-loop-above : goal.invariant-loop-above
invariant-loop-above g l = record {
  cutting : IsCutting l.initial.self-inside.store l.self-inside.store l.fn.key l.fn.closed.items l.closed.items;
  down : Descends (nodes_of l.initial.self-inside.store) l.fn.key l.at;
  there : IsSome (find (nodes_of l.self-inside.store) l.at);
  count : vec_len l.closed + l.self-inside.store.nodes.count ≡ vec_len l.fn.closed + l.initial.self-inside.store.nodes.count;
  counted : IsCounted l.self-inside.store;
  capacity : vec_capacity l.closed ≡ vec_capacity l.fn.closed;
}

abbrev pub decreases-loop-above : goal.decreases-loop-above
decreases-loop-above g l = l.self-inside.store.nodes.count
