use Rattle.rx_turns.proofs.Laws.CallsAreCourses.{calls_are_courses}
use Rattle.rx_turns.proofs.turn_laws.calls_are_courses.Goals as goal

pub returns : goal.returns
returns c = calls_are_courses _
