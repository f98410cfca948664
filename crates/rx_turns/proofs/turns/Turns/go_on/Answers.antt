use Rattle.std.proofs.Common.{sym, ◌∙◌}
use Rattle.rx_turns.specs.States.{turn_state}
use Rattle.rx_turns.proofs.Handed.{gone_on_own, gone_on_further}
use Rattle.rx_turns.proofs.turns.Turns.go_on.Goals as goal

pub returns : goal.returns
returns c =
    gone_on_further c.args.turn (turn_state c.go_deeper.new.self) (turn_state c.args.self.now) (turn_state c.serve-found.new.self) c.serve-found.result
    c.go_deeper.result (sym c.is_some.ensures ∙ c.if-is_some.false) c.serve-found.ensures c.go_deeper.ensures

pub returns-then-is_some : goal.returns-then-is_some
returns-then-is_some c =
    gone_on_own c.args.turn (turn_state c.serve-found.new.self) (turn_state c.args.self.now) c.serve-found.result (sym c.is_some.ensures ∙ c.if-is_some.true)
    c.serve-found.ensures
