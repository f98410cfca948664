use Rattle.std.proofs.Common.{sym, ◌∙◌}
use Rattle.rx_turns.specs.States.{turn_state}
use Rattle.rx_turns.proofs.Handed.{gone_inner, gone_around, gone_nowhere}
use Rattle.rx_turns.proofs.turns.Turns.go_deeper.Goals as goal

pub returns-then-is_some : goal.returns-then-is_some
returns-then-is_some c =
    gone_inner c.args.turn (turn_state c.serve_deeper-found.new.self) (turn_state c.args.self.now) c.serve_deeper-found.result
    (sym c.is_some.ensures ∙ c.if-is_some.true) c.serve_deeper-found.ensures

pub returns-then-turn-eq1 : goal.returns-then-turn-eq1
returns-then-turn-eq1 c =
    gone_around c.args.turn (turn_state c.pick_up.new.self) (turn_state c.args.self.now) (turn_state c.serve_deeper-found.new.self)
    c.serve_deeper-found.result c.pick_up.result (sym c.is_some.ensures ∙ c.if-is_some.false) c.serve_deeper-found.ensures c.if-turn-eq1.true c.pick_up.ensures

pub returns : goal.returns
returns c =
    gone_nowhere c.args.turn (turn_state c.serve_deeper-found.new.self) (turn_state c.args.self.now) c.serve_deeper-found.result
    (sym c.is_some.ensures ∙ c.if-is_some.false) c.serve_deeper-found.ensures c.if-turn-eq1.false
