use Rattle.serde_json.specs.View.{view}
use Rattle.std.specs.Prelude.{string_bytes}
use Rattle.rx_explain.proofs.RefusalTold.{found_there, before_there, told_there}
use Rattle.rx_explain.proofs.explaining.unlawful.Goals as goal

pub returns : goal.returns
returns c =
    let h = c.args.history.now in
    let before = before_there h c.in-Some-Some.front.now c.args.place c.in-Some-Some.ensures.lookup.0.2 in
    let there = found_there h c.args.place c.in-Some-Some.event c.in-Some-Some.ensures'.lookup in
    told_there (view c.args.names.object.now) h c.args.place c.in-Some-Some.front.now c.in-Some-Some.event.now c.as_str.result.now
    (string_bytes c.in_ok-told.told) c.placed.result there before c.as_str.ensures.value c.in_ok-told.ensures c.placed.ensures
