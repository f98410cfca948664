use Rattle.std.proofs.Common.{Some, ap, sym, ◌∙◌}
use Rattle.serde_json.specs.View.{view}
use Rattle.rx_explain.proofs.AcceptedAsRead.{dump_answer}
use Rattle.rx_explain.proofs.RefusalTold.{dump_worded}
use Rattle.rx_explain.proofs.explaining.explain_dump.Goals as goal

pub returns-in-Ok-audit-clause-silent : goal.returns-in-Ok-audit-clause-silent
returns-in-Ok-audit-clause-silent c =
    dump_answer (view c.args.dump.now) c.as_slice.result.now c.in-Ok-audit.verdict c.verdict_told.result
    (c.in-Ok.ensures ∙ ap Some (sym c.as_slice.ensures.value)) c.in-Ok-audit.ensures.ok c.verdict_told.ensures.silent

pub returns-in-Ok-audit-clause-worded : goal.returns-in-Ok-audit-clause-worded
returns-in-Ok-audit-clause-worded c =
    dump_worded (view c.args.names.object.now) (view c.args.dump.now) c.as_slice-in-Ok-audit.result.now c.verdict_told.result
    (c.in-Ok.ensures ∙ ap Some (sym c.as_slice-in-Ok-audit.ensures.value)) c.verdict_told.ensures.worded
