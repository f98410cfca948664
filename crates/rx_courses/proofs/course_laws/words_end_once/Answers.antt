use Rattle.rx_resource.specs.contracts.token.TokenResource.TheImpl.{ghosts}
use Rattle.rx_courses.proofs.LawsOfCourses.{words_end_once}
use Rattle.rx_courses.proofs.course_laws.words_end_once.Goals as goal

pub returns : goal.returns
returns c = words_end_once ghosts
