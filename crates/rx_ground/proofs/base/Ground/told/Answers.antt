use Rattle.rx_ground.proofs.Told.{told_some, told_none}
use Rattle.rx_ground.proofs.base.Ground.told.Goals as goal

pub returns-clause-some : goal.returns-clause-some
returns-clause-some g c =
    let standing = rw (← c.self.view_is) at c.requires in
    rw (← c.self.view_is) (told_some _ g.R.Resource _ _ standing.tied.of_tree c.args.node _ c.get.ensures.value)

pub returns-clause-none : goal.returns-clause-none
returns-clause-none g c = rw (← c.self.view_is) (told_none c.self.inside.tree.nodes c.args.node _ c.get.ensures.value)
