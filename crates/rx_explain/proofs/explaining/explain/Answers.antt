use Rattle.serde_json.specs.View.{view}
use Rattle.rx_device.specs.Input.{IsJsonOf}
use Rattle.rx_explain.proofs.RefusalTold.{input_worded}
use Rattle.rx_explain.proofs.explaining.explain.Goals as goal

pub returns-in-Ok-clause-worded : goal.returns-in-Ok-clause-worded
returns-in-Ok-clause-worded c =
    let json : IsJsonOf c.args.input.now (view c.in-Ok.value) = record { text = c.in-Ok.ensures.ok.0; value = c.in-Ok.ensures.ok.1 } in
    input_worded c.args.input.now (view c.in-Ok.value) c.explain_value.result json c.explain_value.ensures.worded
