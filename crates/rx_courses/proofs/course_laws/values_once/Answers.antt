use Rattle.rx_resource.specs.contracts.token.TokenResource.TheImpl.{ghosts}
use Rattle.rx_courses.proofs.ValuesOfCourses.{values_once}
use Rattle.rx_courses.proofs.course_laws.values_once.Goals as goal

pub returns : goal.returns
returns c = values_once ghosts
