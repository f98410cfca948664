use Rattle.std.proofs.Common.{ap, ◌∙◌}
use Rattle.serde_json.specs.View.{view}
use Rattle.rx_explain.specs.Worded.{labels}
use Rattle.rx_explain.proofs.Beginnings.{ends}
use Rattle.rx_explain.proofs.sentences.of_number.Goals as goal

pub returns : goal.returns
returns c =
    let names = view c.args.past.names.object.now in
    ends names c.args.past.next c.args.why c.args.front.now _ _ c.format.result c.requires
    (c.in_ok-shown.ensures ∙ ap (labels names) c.number_named.ensures) c.format.ensures.ok
