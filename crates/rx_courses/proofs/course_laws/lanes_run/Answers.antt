use Rattle.rx_resource.specs.contracts.token.TokenResource.TheImpl.{ghosts}
use Rattle.rx_courses.proofs.RunsOfLanes.{lanes_run}
use Rattle.rx_courses.proofs.course_laws.lanes_run.Goals as goal

pub returns : goal.returns
returns c = lanes_run ghosts
