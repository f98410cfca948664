use Rattle.rx_resource.specs.contracts.token.TokenResource.TheImpl.{ghosts}
use Rattle.rx_courses.proofs.NotesOfRoots.{tells_each_root}
use Rattle.rx_courses.proofs.course_laws.roots_are_told_in_order.Goals as goal

pub returns : goal.returns
returns c = tells_each_root ghosts
