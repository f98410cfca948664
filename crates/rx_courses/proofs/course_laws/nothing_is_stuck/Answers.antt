use Rattle.rx_resource.specs.contracts.token.TokenResource.TheImpl.{ghosts}
use Rattle.rx_courses.proofs.RunsOfLanes.{nothing_is_stuck}
use Rattle.rx_courses.proofs.course_laws.nothing_is_stuck.Goals as goal

pub returns : goal.returns
returns c = nothing_is_stuck ghosts
