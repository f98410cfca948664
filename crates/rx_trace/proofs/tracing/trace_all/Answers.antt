use Rattle.rx_script.specs.Running.{has_refused}
use Rattle.rx_trace.proofs.Common.{◌≡◌, ◌≤◌, ◌++◌, ◌∷◌, [], ◌∙◌, ap, rules, arith, length, string_bytes, TakesTold}
use Rattle.rx_trace.proofs.LinesTold.{not_traced, traces_more, has_ended}
use Rattle.rx_trace.proofs.tracing.trace_all.Goals as goal

pub loop-step-init : goal.loop-step-init
loop-step-init g c = search (rules, not_traced)

pub loop-step-preserved : goal.loop-step-preserved
loop-step-preserved g c =
    let pushed : c.push.new.self.items ≡ c.loop-step.answers.items ++ c.in_ok-take_told.field-0 ∷ [] = search rules in
    let before = c.loop-step.invariant in
    let told : TakesTold c.loop-step.engine c.next_step.new.agenda c.loop-step.handed (string_bytes c.loop-step.text) (length c.loop-step.answers.items)
    c.in-Some.step c.in_ok-take_told.field-0 c.take_told.new.engine c.take_told.new.agenda c.take_told.new.handed
    (string_bytes c.take_told.new.text) = search rules in
    let next : c.next_step.new.agenda.timeline.clock ≤ c.args.until = c.next_step.ensures.clock before.clock in
    let same : c.take_told.new.agenda.timeline.clock ≡ c.next_step.new.agenda.timeline.clock = told.clock in
    record {
      traces = traces_more c.args.engine.now.book.limit c.args.until c.args.engine.now c.loop-step.engine c.take_told.new.engine c.args.agenda.now
          c.loop-step.agenda c.next_step.new.agenda c.take_told.new.agenda c.args.handed.now c.loop-step.handed c.take_told.new.handed c.in-Some.step
          c.loop-step.answers.items c.push.new.self.items c.in_ok-take_told.field-0 _ _ before.limit c.in-Some.ensures.some told pushed before.traces;
      sound = told.sound;
      told = told.told;
      limit = told.limit ∙ before.limit;
      clock = omega arith;
    }

pub returns-clause-traces : goal.returns-clause-traces
returns-clause-traces g c = has_ended c.args.until c.args.engine.now c.loop-step.engine c.args.agenda.now c.loop-step.agenda c.args.handed.now
    c.loop-step.handed c.loop-step.answers.items _ c.loop-step.invariant.traces c.in_default.ensures.none _
    (c.has_refused-has_refused.ensures ∙ ap has_refused c.as_slice.ensures.value)
