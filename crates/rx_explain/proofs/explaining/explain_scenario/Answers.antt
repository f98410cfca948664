use Rattle.std.proofs.Common.{sym, ◌∙◌}
use Rattle.serde_json.specs.View.{view}
use Rattle.rx_explain.proofs.AcceptedAsRead.{scenario_read}
use Rattle.rx_explain.proofs.explaining.explain_scenario.Goals as goal

pub returns-then-branch : goal.returns-then-branch
returns-then-branch c =
    scenario_read (view c.args.value.now)
    (sym c.if-branch.true ∙ c.in_ok-is_scenario.ensures (view c.args.value.now) c.requires.json)
