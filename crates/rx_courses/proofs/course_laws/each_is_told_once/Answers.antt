use Rattle.rx_resource.specs.contracts.token.TokenResource.TheImpl.{ghosts}
use Rattle.rx_courses.proofs.TellingsOfCourses.{each_is_told_once}
use Rattle.rx_courses.proofs.course_laws.each_is_told_once.Goals as goal

pub returns : goal.returns
returns c = each_is_told_once ghosts
