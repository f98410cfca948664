use Rattle.std.proofs.Common.{◌≡◌, drop}
use Rattle.rx_turns.specs.States.{TurnState, turn_state}
use Rattle.rx_cellar.specs.Serving.{words_due}
use Rattle.rx_turns.specs.Making.{AreMadeDue}
use Rattle.rx_turns.proofs.turns.Turns.claim_all.Given as goal

-- whatever claims all from here on claims all
abbrev pub invariant-loop-index : goal.invariant-loop-index
invariant-loop-index l = (l.self.cellar ≡ l.fn.self.cellar)
    × ((b : TurnState) → AreMadeDue l.turn b (drop l.index (words_due l.fn.self.cellar)) (turn_state l.self) →
    AreMadeDue l.turn b (words_due l.fn.self.cellar) (turn_state l.fn.self))
