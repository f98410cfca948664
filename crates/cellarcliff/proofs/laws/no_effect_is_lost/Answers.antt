use Rattle.rx_resource.specs.contracts.token.TokenResource.TheImpl.{ghosts}
use Rattle.cellarcliff.proofs.LanesTended.{calls_tend_each_lane}
use Rattle.cellarcliff.proofs.laws.no_effect_is_lost.Goals as goal

pub returns : goal.returns
returns c = calls_tend_each_lane ghosts c.no_lane_is_lost.ensures
