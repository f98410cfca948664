use Rattle.std.proofs.Common.{sym, ◌∙◌}
use Rattle.serde_json.specs.View.{view}
use Rattle.rx_explain.proofs.AcceptedAsRead.{taken_history, taken_other}
use Rattle.rx_explain.proofs.RefusalTold.{no_history_worded}
use Rattle.rx_explain.proofs.explaining.explain_value.Goals as goal

pub returns-then-is_history-clause-silent : goal.returns-then-is_history-clause-silent
returns-then-is_history-clause-silent c =
    taken_history (view c.args.value.now) c.explain_history.result (sym c.is_history.ensures ∙ c.if-is_history.true) c.explain_history.ensures.silent

pub returns-else-is_history-clause-silent : goal.returns-else-is_history-clause-silent
returns-else-is_history-clause-silent c =
    taken_other (view c.args.value.now) c.explain_scenario.result (sym c.is_history.ensures ∙ c.if-is_history.false) c.explain_scenario.ensures

pub returns-else-is_history-clause-worded : goal.returns-else-is_history-clause-worded
returns-else-is_history-clause-worded c =
    no_history_worded (view c.args.value.now) c.explain_scenario.result (sym c.is_history.ensures ∙ c.if-is_history.false)
