use Rattle.rx_tree.proofs.Common.{arith, nodes_of}
use Rattle.rx_tree.proofs.StoreLemmas.{within-project}
use Rattle.rx_tree.proofs.SlotsFit.{above_fits}
use Rattle.rx_tree.proofs.store.Store.fits_above.Goals as goal

pub returns : goal.returns
returns g c =
    let nodes = c.capacity-nodes.ensures in
    above_fits (nodes_of c.args.self.now) (within-project (λ l. l.node) c.args.self.now.nodes nodes.within) (omega (arith, nodes.value, nodes.most))
    c.args.above c.requires.there
