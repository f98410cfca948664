use Rattle.serde_json.specs.View.{view}
use Rattle.rx_explain.proofs.Beginnings.{alone}
use Rattle.rx_explain.proofs.sentences.plain.Goals as goal

pub returns : goal.returns
returns c =
    alone (view c.args.past.names.object.now) c.args.past.next c.args.why c.args.words.now c.args.rest.now c.format.result c.requires c.format.ensures.ok
