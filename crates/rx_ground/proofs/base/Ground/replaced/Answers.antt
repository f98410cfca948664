use Rattle.rx_ground.proofs.Common.{AreTied}
use Rattle.rx_ground.proofs.Inners.{no_switch}
use Rattle.rx_ground.proofs.base.Ground.replaced.Goals as goal

pub returns-clause-none : goal.returns-clause-none
returns-clause-none g c =
    let s = c.self.inside in
    let tied : AreTied s.register.base g.R.Resource s.register.history s.tree s.hubs = rw (← c.self.view_is) at c.requires.between.tied in
    let above = c.in_ok-merging.was in
    let there = rw (above, ← c.self.view_is) at c.requires.there in
    rw (← c.self.view_is) (no_switch tied.of_tree.records c.args.above _ _ c.requires.named above there c.at.ensures.value _ c.is_switch.ensures
    c.if-is_switch.false)
