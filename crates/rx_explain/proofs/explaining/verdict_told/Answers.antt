use Rattle.std.proofs.Common.{Some, subst}
use Rattle.serde_json.specs.View.{view}
use Rattle.rx_audit.specs.Verdict.{IsVerdict}
use Rattle.rx_explain.proofs.RefusalTold.{first_at, first_unsettled}
use Rattle.rx_explain.proofs.explaining.verdict_told.Goals as goal

pub returns-in_ok-unlawful-in-Unlawful-clause-worded : goal.returns-in_ok-unlawful-in-Unlawful-clause-worded
returns-in_ok-unlawful-in-Unlawful-clause-worded c =
    let is = subst (λ v. IsVerdict c.args.history.now v) c.in-Unlawful.is c.requires in
    first_at (view c.args.names.object.now) c.args.history.now c.in-Unlawful.place c.in_ok-unlawful-in-Unlawful.field-0 is
    c.in_ok-unlawful-in-Unlawful.ensures

pub returns-in_ok-force-in-Unsettled-clause-worded : goal.returns-in_ok-force-in-Unsettled-clause-worded
returns-in_ok-force-in-Unsettled-clause-worded c =
    let is = subst (λ v. IsVerdict c.args.history.now v) c.in-Unsettled.is c.requires in
    first_unsettled (view c.args.names.object.now) c.args.history.now (Some c.in_ok-force-in-Unsettled.field-0) is
