use Rattle.std.proofs.Common.{refl, sym, ◌∙◌}
use Rattle.rx_turns.specs.Seen.{seen}
use Rattle.rx_turns.specs.States.{turn_state}
use Rattle.rx_turns.proofs.Handed.{served_on, served_behind}
use Rattle.rx_turns.proofs.turns.Turns.ask_on.Goals as goal

pub returns : goal.returns
returns c =
    served_behind c.args.on.turn (turn_state c.begin.new.self) (turn_state c.args.self.now) (turn_state c.ask-found.new.self) (record
    (turn_state c.ask-found.new.self) { agenda = seen c.drop_hand.new.self }) c.args.word c.ask-found.result c.begin.result
    (sym c.is_some.ensures ∙ c.if-is_some.false) c.requires.told c.ask-found.ensures.asks (record { holds = c.drop_hand.ensures.holds; only = refl }) c.begin.ensures

pub returns-then-is_some : goal.returns-then-is_some
returns-then-is_some c =
    served_on c.args.on.turn (turn_state c.ask-found.new.self) (turn_state c.args.self.now) c.args.word c.ask-found.result
    (sym c.is_some.ensures ∙ c.if-is_some.true) c.requires.told c.ask-found.ensures.asks
