use Rattle.rx_resource.specs.contracts.token.TokenResource.TheImpl.{ghosts}
use Rattle.cellarcliff.proofs.ToldInOrder.{roots_told}
use Rattle.cellarcliff.proofs.laws.roots_hear_in_order.Goals as goal

pub returns : goal.returns
returns c = roots_told ghosts c.roots_are_told_in_order.ensures
