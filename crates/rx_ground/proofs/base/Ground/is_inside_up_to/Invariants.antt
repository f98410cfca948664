use Rattle.rx_ground.proofs.Common.{◌≡◌, Some, suc, true, option_map, option_map_or, Key, is_there, is_inside_up_to}
use Rattle.rx_ground.proofs.base.Ground.is_inside_up_to.Given as goal

abbrev pub invariant-loop-at : goal.invariant-loop-at
invariant-loop-at g l = record {
  there : is_there l.fn.self.tree.nodes l.at ≡ true;
  same : is_inside_up_to l.fn.self.register.history l.fn.hub (option_map (λ (key : Key). key.number) l.at) ≡
      is_inside_up_to l.fn.self.register.history l.fn.hub (Some l.fn.node.number);
}

abbrev pub decreases-loop-at : goal.decreases-loop-at
decreases-loop-at g l = option_map_or (λ (key : Key). suc key.number) l.at 0
