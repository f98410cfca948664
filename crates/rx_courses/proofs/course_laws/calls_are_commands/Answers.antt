use Rattle.rx_resource.specs.contracts.token.TokenResource.TheImpl.{ghosts}
use Rattle.rx_courses.proofs.CallsAreCommands.{are_commands}
use Rattle.rx_courses.proofs.course_laws.calls_are_commands.Goals as goal

pub returns : goal.returns
returns g c = are_commands _ ghosts
