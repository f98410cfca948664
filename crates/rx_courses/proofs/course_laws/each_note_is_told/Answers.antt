use Rattle.rx_resource.specs.contracts.token.TokenResource.TheImpl.{ghosts}
use Rattle.rx_courses.proofs.NotesOfCommands.{tells_each_note}
use Rattle.rx_courses.proofs.course_laws.each_note_is_told.Goals as goal

pub returns : goal.returns
returns c = tells_each_note ghosts
