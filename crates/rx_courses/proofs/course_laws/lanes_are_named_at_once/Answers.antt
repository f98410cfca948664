use Rattle.rx_resource.specs.contracts.token.TokenResource.TheImpl.{ghosts}
use Rattle.rx_courses.proofs.RunsOfLanes.{names_at_once}
use Rattle.rx_courses.proofs.course_laws.lanes_are_named_at_once.Goals as goal

pub returns : goal.returns
returns c = names_at_once ghosts
