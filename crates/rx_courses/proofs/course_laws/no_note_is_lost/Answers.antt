use Rattle.rx_resource.specs.contracts.token.TokenResource.TheImpl.{ghosts}
use Rattle.rx_courses.proofs.LawsOfCourses.{no_note_is_lost}
use Rattle.rx_courses.proofs.course_laws.no_note_is_lost.Goals as goal

pub returns : goal.returns
returns c = no_note_is_lost ghosts
