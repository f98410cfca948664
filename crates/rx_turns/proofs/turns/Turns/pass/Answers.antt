use Rattle.std.proofs.Common.{refl}
use Rattle.rx_turns.specs.Seen.{seen}
use Rattle.rx_turns.specs.States.{turn_state}
use Rattle.rx_turns.proofs.turns.Turns.pass.Goals as goal

pub returns : goal.returns
returns c = record {
  marked = record (turn_state c.args.self.now) { agenda = seen c.mark.new.self };
  free = turn_state c.let_go-left.new.self;
  left = c.let_go-left.result;
  marks = record { marks = c.mark.ensures; only = refl };
  lets_go = rw (← c.at_depth.ensures) c.let_go-left.ensures;
  leaves = rw (← c.owner.ensures) c.leave.ensures;
}
