use Rattle.rx_tree.proofs.StoreLemmas.{within-project}
use Rattle.rx_tree.proofs.tree.Tree.slots.Goals as goal

pub returns-clause-within : goal.returns-clause-within
returns-clause-within g c = rw (← c.self.view_is) (within-project (λ l. l.node) c.self.inside.store.nodes c.capacity.ensures.within)
