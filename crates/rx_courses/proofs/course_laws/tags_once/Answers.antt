use Rattle.rx_resource.specs.contracts.token.TokenResource.TheImpl.{ghosts}
use Rattle.rx_courses.proofs.LawsOfCourses.{tags_once}
use Rattle.rx_courses.proofs.course_laws.tags_once.Goals as goal

pub returns : goal.returns
returns c = tags_once ghosts
