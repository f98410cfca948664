use Rattle.rx_resource.specs.contracts.token.TokenResource.TheImpl.{ghosts}
use Rattle.rx_courses.proofs.LeftByCommands.{names_what_is_left}
use Rattle.rx_courses.proofs.course_laws.commands_name_what_is_left.Goals as goal

pub returns : goal.returns
returns c = names_what_is_left ghosts
