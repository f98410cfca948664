use Rattle.std.proofs.Common.{ℕ, Option, refl, subst}
use Rattle.rx_cellar.specs.Serving.{node_word}
use Rattle.rx_turns.specs.States.{turn_state}
use Rattle.rx_turns.specs.Making.{ComesHome, opens_no_inner}
use Rattle.rx_turns.proofs.NothingDue.{none_comes}
use Rattle.rx_turns.proofs.turns.Turns.come_home_to.Goals as goal

pub returns-then-not-has_due : goal.returns-then-not-has_due
returns-then-not-has_due c =
    none_comes c.args.turn (turn_state c.args.self.now) (node_word c.args.self.now.cellar c.args.node) (c.has_due.ensures c.if-not-has_due.true)

pub returns-in-None : goal.returns-in-None
returns-in-None c =
    subst (λ (home : Option ℕ). ComesHome c.args.turn (turn_state c.args.self.now) (turn_state c.args.self.now) home) c.in-None.ensures (opens_no_inner refl)
