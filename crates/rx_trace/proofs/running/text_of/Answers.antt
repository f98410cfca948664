use Rattle.rx_trace.proofs.Common.{[], map, string_bytes, ware_of, stage_of, script_of, history_lawful}
use Rattle.rx_trace.proofs.WholeTrace.{whole_trace, told_at_first, known_at_first}
use Rattle.rx_trace.proofs.running.text_of.Goals as goal

pub trace_course-outcome-requires-clause-told : goal.trace_course-outcome-requires-clause-told
trace_course-outcome-requires-clause-told g c κs within = told_at_first c.begin-engine.result c.begin-engine.ensures.sound c.begin-engine.ensures.history

pub returns : goal.returns
returns g c =
    let to = c.in_ok-ran.ensures.traces [] c.begin-engine.ensures.history
    (known_at_first c.begin-engine.result c.new-handed.result (map (ware_of g.S.Resource) c.args.stock.items) c.begin-engine.ensures.stage
    c.new-handed.ensures) in
    whole_trace (script_of c.args.scenario) (map (ware_of g.S.Resource) c.args.stock.items) c.begin-engine.result.book.limit
    (stage_of c.begin-engine.result []) (stage_of c.trace_course-outcome.new.engine to.0) (string_bytes c.in_ok-ran.ran.text)
    (string_bytes c.push_closing.new.text) c.in_ok-ran.ran.has_refused to.1 c.begin-engine.ensures.limit c.begin-engine.ensures.stage
    (c.in_ok-push_closing.ensures to.0 (history_lawful to.3 c.in_ok-ran.ensures.sound.kept) to.2) to.4
