use Rattle.rx_resource.specs.contracts.token.TokenResource.TheImpl.{ghosts}
use Rattle.rx_courses.proofs.OrderOfCourses.{tells_in_order}
use Rattle.rx_courses.proofs.course_laws.tells_in_order.Goals as goal

pub returns : goal.returns
returns c = tells_in_order ghosts
