use Rattle.rx_script.proofs.EachCourse.{one_course}
use Rattle.rx_script.proofs.PossibleCourse.{possible_too}
use Rattle.rx_script.proofs.theorems.each_scenario_has_one_canonical_course.Goals as goal

pub returns : goal.returns
returns c = record { one = one_course; possible = possible_too }
