use Rattle.std.proofs.Common.{ap, ◌∙◌}
use Rattle.serde_json.specs.View.{view}
use Rattle.rx_explain.specs.Worded.{labels}
use Rattle.rx_explain.proofs.Beginnings.{begins}
use Rattle.rx_explain.proofs.sentences.on_hub.Goals as goal

pub returns : goal.returns
returns c =
    let names = view c.args.past.names.object.now in
    begins names c.args.past.next c.args.why c.args.front.now _ c.args.words.now c.args.rest.now _ c.format.result c.requires
    (c.in_ok-shown.ensures ∙ ap (labels names) c.hub_number.ensures) c.format.ensures.ok
