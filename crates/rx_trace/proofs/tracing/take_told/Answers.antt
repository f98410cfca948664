use Rattle.rx_trace.proofs.Common.{◌∙◌, ◌++◌, sym, ap, notes, length, string_bytes, action_of, out-Step, step_of, step_text, told_in_code, HasToldAll}
use Rattle.rx_trace.proofs.LinesTold.{action_in, told_step, line_behind}
use Rattle.rx_trace.proofs.tracing.take_told.Goals as goal

pub returns : goal.returns
returns g c =
    let at = c.args.agenda.now.timeline.clock in
    let text = string_bytes c.args.text.now in
    let place = c.len-place.result in
    let mid = c.take_step.new.engine in
    let all : HasToldAll c.tell.new.engine = ap (λ s. s.given) c.in_ok-tell.ensures.book
    ∙ ap (λ s. length (notes s.history)) (sym c.in_ok-tell.ensures.book) in
    told_step c.args.engine.now mid c.tell.new.engine c.args.agenda.now c.take_step.new.agenda c.args.step c.in_ok-answer.answer c.args.handed.now
    c.tell.new.handed c.args.executed place text (string_bytes c.push_str.new.self) c.requires.sound c.requires.told c.len-place.ensures
    c.in_ok-answer.ensures c.in_ok-tell.ensures.stays all c.in_ok-tell.ensures.handed
    (λ within rise. line_behind c.args.executed at (step_of c.args.step).action c.in_ok-answer.answer place (told_in_code mid c.tell.new.handed place) text
    (string_bytes c.push_front.new.text) (string_bytes c.push_outcome.new.text) (string_bytes c.tell.new.text) (string_bytes c.push_str.new.self)
    (c.in_ok-push_front.ensures
    ∙ ap (λ n. text ++ step_text c.args.executed n (action_of (out-Step c.args.step).action)) c.now.ensures.value
    ∙ ap (λ a. text ++ step_text c.args.executed at a) (action_in c.args.step))
    c.in_ok-push_outcome.ensures (c.in_ok-tell.ensures.told within rise) c.in_ok-push_str.ensures.bytes)
