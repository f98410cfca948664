use Rattle.std.proofs.Common.{sym, ap, ◌∙◌, Option}
use Rattle.rx_cellar.specs.declared.shapes.Effect.{Effect}
use Rattle.rx_cellar.specs.Serving.{words_due}
use Rattle.rx_turns.specs.Making.{lane_at_once, comes_at_once, all_wait}
use Rattle.rx_turns.specs.Serving.{new_hand}
use Rattle.rx_turns.proofs.turns.Turns.come.Goals as goal

pub returns-in-Some-due_word : goal.returns-in-Some-due_word
returns-in-Some-due_word c =
    comes_at_once c.in-Some-due_word.word c.in-Some.effect (new_hand c.args.self.now.tickets c.in-Some-due_word.word c.in-Some.effect) c.in-Some.is
    (sym c.in-Some-due_word.ensures) c.hand_out.ensures.hands

pub returns-in-None-due_word : goal.returns-in-None-due_word
returns-in-None-due_word c =
    all_wait (ap (λ (o : Option Effect). lane_at_once o (words_due c.args.self.now.cellar)) c.in-Some.is ∙ sym c.in-None-due_word.ensures) c.claim_all.ensures

pub returns-in-None : goal.returns-in-None
returns-in-None c = all_wait (ap (λ (o : Option Effect). lane_at_once o (words_due c.args.self.now.cellar)) c.in-None.is) c.claim_all-in-None.ensures
