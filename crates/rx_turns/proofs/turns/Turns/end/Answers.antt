use Rattle.std.proofs.Common.{refl}
use Rattle.rx_turns.specs.States.{turn_state}
use Rattle.rx_turns.proofs.turns.Turns.end.Goals as goal

pub returns : goal.returns
returns c = record {
  between = turn_state c.let_go-left.new.self;
  left = c.let_go-left.result;
  lets_go = c.let_go-left.ensures;
  emptied = c.empty.ensures;
  only = rw (c.astray_if-self.ensures, c.is_some.ensures, c.is_some-2.ensures, c.first-first.ensures.first) refl;
}
