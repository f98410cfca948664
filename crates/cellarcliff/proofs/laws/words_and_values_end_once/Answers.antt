use Rattle.rx_resource.specs.contracts.token.TokenResource.TheImpl.{ghosts}
use Rattle.cellarcliff.proofs.EachEndedOnce.{each_ended_once}
use Rattle.cellarcliff.proofs.laws.words_and_values_end_once.Goals as goal

pub returns : goal.returns
returns c =
    each_ended_once ghosts c.words_end_once.ensures c.nothing_comes_behind_a_last_effect.ensures c.closings_once.ensures c.values_once.ensures
