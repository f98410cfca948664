use Rattle.rx_tree.proofs.Common.{ap}
use Rattle.rx_tree.proofs.store.Store.previous_apart.Goals as goal

pub returns : goal.returns
returns g c = ap (λ k. k.previous) c.link.ensures
