use Rattle.std.proofs.Common.{refl}
use Rattle.rx_turns.specs.Seen.{seen}
use Rattle.rx_turns.specs.States.{turn_state}
use Rattle.rx_turns.proofs.turns.Turns.stop.Goals as goal

pub returns : goal.returns
returns c = record {
  marked = record (turn_state c.args.self.now) { agenda = seen c.mark.new.self };
  ended = turn_state c.end.new.self;
  marks = record { marks = c.mark.ensures; only = refl };
  ends = c.end.ensures;
  deeper = c.end_deeper.ensures;
}
