use Rattle.rx_resource.specs.contracts.token.TokenResource.TheImpl.{ghosts}
use Rattle.cellarcliff.proofs.EffectsToldOnce.{effects_told_once}
use Rattle.cellarcliff.proofs.laws.effects_are_told_once.Goals as goal

pub returns : goal.returns
returns c = effects_told_once ghosts c.each_is_told_once.ensures c.tags_once.ensures
