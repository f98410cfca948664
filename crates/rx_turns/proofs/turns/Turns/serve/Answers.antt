use Rattle.std.proofs.Common.{sym, ◌∙◌}
use Rattle.rx_turns.specs.States.{turn_state}
use Rattle.rx_turns.proofs.Handed.{served_again, served_bare}
use Rattle.rx_turns.proofs.turns.Turns.serve.Goals as goal

pub returns-then-is_empty : goal.returns-then-is_empty
returns-then-is_empty c =
    served_bare c.args.on.turn (turn_state c.begin.new.self) (turn_state c.args.self.now) c.begin.result (sym c.is_empty.ensures ∙ c.if-is_empty.true)
    c.begin.ensures

pub returns-else-is_empty : goal.returns-else-is_empty
returns-else-is_empty c =
    served_again c.args.on.turn (turn_state c.args.self.now) c.args.on.line c.requires (sym c.is_empty.ensures ∙ c.if-is_empty.false) c.in-None.ensures.told
