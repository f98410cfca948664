use Rattle.rx_trace.proofs.Common.{◌≡◌, ◌∙◌, map, ap, subst, string_bytes, List, IfOk, Event, step_of, stage_of, Agenda, with_steps, empty_agenda, agenda_of}
use Rattle.rx_trace.proofs.Common.{IsHistoryOf, Knows, HasRunOut}
use Rattle.rx_trace.proofs.tracing.trace_course.Goals as goal

pub returns-clause-traces : goal.returns-clause-traces
returns-clause-traces g c =
    let same : agenda_of c.add_all.new.agenda ≡ with_steps (map step_of c.args.steps.items) empty_agenda =
    c.in_ok-add_all.ensures.ok ∙ ap (with_steps (map step_of c.args.steps.items)) c.empty_agenda-agenda.ensures.value in
    subst (λ (a : Agenda). IfOk c.trace_all.result (λ r. (h : List Event) → IsHistoryOf h c.args.engine.now.tallies c.args.engine.now.book
    → Knows c.args.handed.now (stage_of c.args.engine.now h) → HasRunOut c.args.engine.now.book.limit c.args.until (stage_of c.args.engine.now h) a (string_bytes r.text)
    r.has_refused c.trace_all.new.engine c.trace_all.new.handed)) same c.trace_all.ensures.traces
