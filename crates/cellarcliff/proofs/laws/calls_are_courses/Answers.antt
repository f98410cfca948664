use Rattle.rx_resource.specs.contracts.token.TokenResource.TheImpl.{ghosts}
use Rattle.cellarcliff.proofs.CallsMakeCourses.{all_calls_are_courses}
use Rattle.cellarcliff.proofs.laws.calls_are_courses.Goals as goal

pub returns : goal.returns
returns c = all_calls_are_courses ghosts
