use Rattle.std.proofs.Common.{sym, ap, ◌∙◌}
use Rattle.std.proofs.Math.Bool.{not}
use Rattle.std.proofs.lemmas.Bool.{false≢true}
use Rattle.rx_turns.proofs.turns.Turns.make_more_room.Goals as goal

pub returns-then-is_err-clause-none : goal.returns-then-is_err-clause-none
returns-then-is_err-clause-none c = λ refused. (
  c.saturating_add.result,
  λ fits. false≢true (sym (ap not c.if-is_err.true) ∙ (sym c.is_err.ensures.negation ∙ c.widen.ensures.had fits)),
)
