use Rattle.rx_resource.specs.contracts.token.TokenResource.TheImpl.{ghosts}
use Rattle.rx_courses.proofs.RefusedCommands.{refused_is_unchanged}
use Rattle.rx_courses.proofs.course_laws.refused_is_unchanged.Goals as goal

pub returns : goal.returns
returns c = refused_is_unchanged ghosts
