use Rattle.rx_picture.proofs.Common.{arith}
use Rattle.rx_picture.proofs.ClimbByStack.{climb_begins, climb_ended, climb_stopped, climb_popped}
use Rattle.rx_picture.proofs.climb.climb.Goals as goal

pub loop-step-init : goal.loop-step-init
loop-step-init c = grind (arith, climb_begins)

pub loop-step-preserved : goal.loop-step-preserved
loop-step-preserved c = grind (arith, climb_popped)

pub returns-in_default : goal.returns-in_default
returns-in_default c = grind (arith, climb_ended)

pub returns : goal.returns
returns c = grind (arith, climb_stopped)
