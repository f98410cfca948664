use Rattle.rx_resource.specs.contracts.token.TokenResource.TheImpl.{ghosts}
use Rattle.cellarcliff.proofs.ToldInOrder.{refused_calls_change_nothing}
use Rattle.cellarcliff.proofs.laws.refused_calls_change_nothing.Goals as goal

pub returns : goal.returns
returns c = refused_calls_change_nothing ghosts c.refused_is_unchanged.ensures
