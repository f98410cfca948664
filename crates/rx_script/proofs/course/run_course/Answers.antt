use Rattle.rx_script.proofs.Common.{◌≡◌, map, ap, subst, ◌∙◌, IfOk, step_of, Agenda, with_steps, empty_agenda, agenda_of, limited, Ends, MovesOn}
use Rattle.rx_script.proofs.course.run_course.Goals as goal

pub returns-clause-course : goal.returns-clause-course
returns-clause-course g c =
    let same : agenda_of c.add_all.new.agenda ≡ with_steps (map step_of c.args.steps.items) empty_agenda =
    c.in_ok-add_all.ensures.ok ∙ ap (with_steps (map step_of c.args.steps.items)) c.empty_agenda-agenda.ensures.value in
    subst (λ (a : Agenda). IfOk c.take_all.result (λ v. MovesOn c.args.engine.now c.take_all.new.engine
    (λ s t. Ends (limited c.args.engine.now.book.limit) c.args.until (record { stage = s; agenda = a }) v.items t))) same c.take_all.ensures.course
