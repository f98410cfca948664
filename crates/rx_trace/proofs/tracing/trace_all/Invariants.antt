-- The steps so far lead here, with these lines.
use Rattle.rx_trace.proofs.Common.{◌≡◌, ◌≤◌, string_bytes, IsSound, HasToldAll, size_left}
use Rattle.rx_trace.proofs.LinesTold.{HasTraced}
use Rattle.rx_trace.proofs.tracing.trace_all.Given as goal

abbrev pub invariant-loop-step : goal.invariant-loop-step
invariant-loop-step g l = record {
  traces : HasTraced l.initial.engine.book.limit l.until l.initial.engine l.initial.agenda l.initial.handed l.answers.items (string_bytes l.text)
      l.engine l.agenda l.handed;
  sound : IsSound l.engine;
  told : HasToldAll l.engine;
  limit : l.engine.book.limit ≡ l.initial.engine.book.limit;
  clock : l.agenda.timeline.clock ≤ l.until;
}

abbrev pub decreases-loop-step : goal.decreases-loop-step
decreases-loop-step g l = size_left l.agenda
