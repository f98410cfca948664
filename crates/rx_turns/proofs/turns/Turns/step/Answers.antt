use Rattle.std.proofs.Common.{refl}
use Rattle.rx_turns.specs.Seen.{seen}
use Rattle.rx_turns.specs.Agendas.{hand_at}
use Rattle.rx_turns.specs.States.{turn_state}
use Rattle.rx_turns.specs.Calls.{TurnGoesOn}
use Rattle.rx_turns.proofs.Handed.{found_holds}
use Rattle.rx_turns.proofs.turns.Turns.step.Goals as goal

pub returns : goal.returns
returns c = record {
  made = c.make-done.new.answer;
  step = record {
    status = c.make-done.result.status;
    handed = hand_at (turn_state c.go_on-found.new.self).agenda c.go_on-found.result;
    is_own = c.make-done.result.is_own;
  };
  steps = record {
    marked = record (turn_state c.args.self.now) { agenda = seen c.mark.new.self };
    made = turn_state c.make-done.new.self;
    marks = record { marks = c.mark.ensures; only = refl };
    makes = c.make-done.ensures;
    goes_on = found_holds (TurnGoesOn c.args.turn (turn_state c.go_on-found.new.self) (turn_state c.make-done.new.self)) (turn_state c.go_on-found.new.self)
        c.go_on-found.result c.go_on-found.ensures;
  };
  told = c.tell.ensures;
  status_is = refl;
}
