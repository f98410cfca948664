use Rattle.rx_script.proofs.Common.{[], map, string_bytes, ware_of, stage_of}
use Rattle.rx_scenario.specs.Scenario.{script_of}
use Rattle.rx_script.proofs.WholeReport.{whole_output}
use Rattle.rx_script.proofs.running.text_of.Goals as goal

pub returns : goal.returns
returns g c = whole_output c.args.form (script_of c.args.scenario) (map (ware_of g.S.Resource) c.args.stock.items)
    c.begin-engine.result.book.limit (stage_of c.begin-engine.result []) (string_bytes c.in_ok-ran.ran.text) (string_bytes c.push_closing.new.text)
    c.carry_out-outcome.new.engine c.close-closed.result.released c.saturating_add-faults.result
    (c.in_ok-ran.ensures.ok [] c.begin-engine.ensures.history).0 c.begin-engine.ensures.limit c.begin-engine.ensures.stage
    c.close-closed.ensures.released c.in_ok-push_closing.ensures c.requires.has_form
    c.in_ok-ran.ran.has_refused (c.in_ok-ran.ensures.ok [] c.begin-engine.ensures.history).1 c.close-closed.result.faults _ c.promise.ensures c.close-closed.ensures.faults c.saturating_add-faults.ensures
