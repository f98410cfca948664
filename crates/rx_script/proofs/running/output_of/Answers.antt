use Rattle.rx_script.proofs.Common.{map, sym, ap, ◌∙◌, step_of, steps_of, lacks_form}
use Rattle.rx_script.proofs.RunsFound.{run_found}
use Rattle.rx_script.specs.Running.{no_form}
use Rattle.rx_script.proofs.running.output_of.Goals as goal

pub returns-then-lacks_form-clause-shape : goal.returns-then-lacks_form-clause-shape
returns-then-lacks_form-clause-shape g c = λ is. no_form c.in_ok-scenario.ensures.value
    (ap (λ l. lacks_form c.args.form (steps_of (map step_of l))) (sym c.as_slice.ensures.value) ∙ sym c.lacks_form.ensures ∙ c.if-lacks_form.true)

pub returns-in-Ok-clause-ok : goal.returns-in-Ok-clause-ok
returns-in-Ok-clause-ok g c = run_found _ _ _ _ _ _ c.in_ok-scenario.ensures.value
    (ap (λ l. lacks_form c.args.form (steps_of (map step_of l))) (sym c.as_slice.ensures.value) ∙ sym c.lacks_form.ensures ∙ c.if-lacks_form.false)
    c.in-Ok.ensures
