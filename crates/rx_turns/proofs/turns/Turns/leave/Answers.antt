use Rattle.std.proofs.Common.{sym, subst}
use Rattle.rx_turns.specs.States.{turn_state}
use Rattle.rx_turns.specs.Ending.{LeavesTo}
use Rattle.rx_turns.proofs.turns.Turns.leave.Goals as goal

pub returns-in-Some : goal.returns-in-Some
returns-in-Some c =
    subst (λ o. LeavesTo o c.args.turn (turn_state c.args.self.now) (turn_state c.leave_under.new.self)) (sym c.in-Some.is) c.leave_under.ensures
