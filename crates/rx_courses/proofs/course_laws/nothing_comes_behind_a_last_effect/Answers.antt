use Rattle.rx_resource.specs.contracts.token.TokenResource.TheImpl.{ghosts}
use Rattle.rx_courses.proofs.BehindLastEffects.{nothing_behind}
use Rattle.rx_courses.proofs.course_laws.nothing_comes_behind_a_last_effect.Goals as goal

pub returns : goal.returns
returns c = nothing_behind ghosts
