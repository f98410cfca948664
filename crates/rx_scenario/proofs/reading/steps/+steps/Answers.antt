use Rattle.std.proofs.Common.{◌∙◌, append_assoc}
use Rattle.std.proofs.lemmas.List.{map-append}
use Rattle.rx_scenario.proofs.Steps.{labels_in-push, with_front-more, with_front-all}
use Rattle.rx_scenario.proofs.reading.steps.+steps.Goals as goal

pub each_step-loop-value-preserved : goal.each_step-loop-value-preserved
each_step-loop-value-preserved t c =
    let within = rw c.deref-value-items.ensures.value at c.loop-value-test.true in
    let is = rw c.deref-value-items.ensures.value at c.value-item.is in
    let gives = rw c.new.ensures at c.in_ok-step_in.ensures.value in
    record {
      steps = rw (c.in_ok-push.ensures.items, map-append) (c.loop-value.invariant.steps ∙ with_front-more _ _ _ _ _ _ within is gives);
      noted = rw (c.in_ok-push.ensures.items, map-append, labels_in-push, ← append_assoc, ← c.loop-value.invariant.noted) c.in_ok-step_in.ensures.labels;
    }

pub each_step-returns-clause-value : goal.each_step-returns-clause-value
each_step-returns-clause-value t c =
    with_front-all _ _ _ _ _ _ c.deref-value-items.ensures.value c.loop-value-test.false c.loop-value.invariant.steps
