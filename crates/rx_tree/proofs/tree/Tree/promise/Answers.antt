use Rattle.rx_tree.proofs.Chain.{promised}
use Rattle.rx_tree.proofs.tree.Tree.promise.Goals as goal

pub returns : goal.returns
returns g c = rw (← c.self.view_is) (promised c.self.inside.store c.self.invariant.tied)
