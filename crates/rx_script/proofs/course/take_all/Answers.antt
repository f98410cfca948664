use Rattle.rx_script.proofs.Common.{◌≡◌, ◌≤◌, ◌++◌, ◌∷◌, [], ◌∙◌, rules, arith}
use Rattle.rx_script.proofs.OneMoreStep.{not_led, leads_more, led_stays, has_ended}
use Rattle.rx_script.proofs.course.take_all.Goals as goal

pub loop-step-init : goal.loop-step-init
loop-step-init g c = search (rules, not_led)

pub loop-step-preserved : goal.loop-step-preserved
loop-step-preserved g c =
    let pushed : c.push.new.self.items ≡ c.loop-step.answers.items ++ c.in_ok-answer.answer ∷ [] = search rules in
    let before = c.loop-step.invariant in
    let followed = c.in_ok-answer.ensures in
    let stays = c.in_ok-keep_notes.ensures in
    let next : c.next_step.new.agenda.timeline.clock ≤ c.args.until = c.next_step.ensures.clock before.clock in
    let same : c.take_step.new.agenda.timeline.clock ≡ c.next_step.new.agenda.timeline.clock = followed.clock in
    record {
      leads = led_stays c.args.engine.now.book.limit c.args.until c.args.engine.now c.take_step.new.engine c.keep_notes.new.engine c.args.agenda.now
          c.take_step.new.agenda c.push.new.self.items stays
          (leads_more c.args.engine.now.book.limit c.args.until c.args.engine.now c.loop-step.engine c.take_step.new.engine c.args.agenda.now
          c.loop-step.agenda c.next_step.new.agenda c.take_step.new.agenda c.in-Some.step
          c.loop-step.answers.items c.push.new.self.items c.in_ok-answer.answer before.limit c.in-Some.ensures.some followed pushed before.leads);
      sound = stays.sound;
      limit = stays.limit ∙ followed.limit ∙ before.limit;
      clock = omega arith;
    }

pub returns-clause-course : goal.returns-clause-course
returns-clause-course g c = has_ended c.args.until c.args.engine.now c.loop-step.engine c.args.agenda.now c.loop-step.agenda c.loop-step.answers.items
    c.loop-step.invariant.leads c.in_default.ensures.none
