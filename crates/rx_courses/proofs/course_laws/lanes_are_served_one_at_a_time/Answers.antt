use Rattle.rx_resource.specs.contracts.token.TokenResource.TheImpl.{ghosts}
use Rattle.rx_courses.proofs.OneAtATime.{serves_one_at_a_time}
use Rattle.rx_courses.proofs.course_laws.lanes_are_served_one_at_a_time.Goals as goal

pub returns : goal.returns
returns c = serves_one_at_a_time ghosts
