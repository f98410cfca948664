use Rattle.rx_picture.proofs.Common.{most_visits}
use Rattle.rx_picture.proofs.ClimbByStack.{ClimbsOn}
use Rattle.rx_picture.proofs.climb.climb.Given as goal

abbrev pub invariant-loop-step : goal.invariant-loop-step
invariant-loop-step l = ClimbsOn most_visits l.past l.leaf l.step l.visits.items l.todo.items
