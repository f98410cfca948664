use Rattle.rx_script.proofs.Common.{ap, ◌∙◌, stage_of, unclosed_output}
use Rattle.rx_script.specs.Running.{has_refused}
use Rattle.rx_script.proofs.WrittenBeforeClosing.{carried_out}
use Rattle.rx_script.proofs.running.carry_out.Goals as goal

pub returns : goal.returns
returns g c = record {
  ok = λ h w.
      let to = c.in_ok-answers.ensures.course h w in
      carried_out c.unclosed_output.new.engine c.in_ok-answers.ensures.sound to.1 to.2
      (λ unchecked. c.in_ok-text.ensures.ok to.0 to.2 unchecked
      ∙ ap (λ l. unclosed_output c.args.form l (stage_of c.run_course.new.engine to.0)) c.as_slice.ensures.value)
      c.in_ok-text.ensures.base c.in_ok-text.ensures.history c.in_ok-text.ensures.faults _
      (c.has_refused-has_refused.ensures ∙ ap has_refused c.as_slice-2.ensures.value);
}
