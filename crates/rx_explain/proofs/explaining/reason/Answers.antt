use Rattle.serde_json.specs.View.{view}
use Rattle.rx_explain.proofs.RefusalTold.{words_forced}
use Rattle.rx_explain.proofs.explaining.reason.Goals as goal

pub returns-in_default : goal.returns-in_default
returns-in_default c =
    words_forced (view c.args.names.object.now) c.args.front.now c.args.event c.args.verdict.now c.force.result c.requires c.in_default.not-Lawful
