use Rattle.rx_resource.specs.contracts.token.TokenResource.TheImpl.{ghosts}
use Rattle.rx_courses.proofs.ClosingsOfCourses.{closings_once}
use Rattle.rx_courses.proofs.course_laws.closings_once.Goals as goal

pub returns : goal.returns
returns c = closings_once ghosts
