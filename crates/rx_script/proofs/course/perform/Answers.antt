use Rattle.rx_script.proofs.Common.{agenda_of, Cancels, string_bytes, subst}
use Rattle.rx_script.proofs.OneMoreStep.{IfOk-map, performed_command, performed_cancel}
use Rattle.rx_script.proofs.course.perform.Goals as goal

pub returns-in-Command : goal.returns-in-Command
returns-in-Command g c = rw c.in-Command.is (IfOk-map _ (performed_command _ _ _ _) c.execute.ensures)

pub returns-in-Cancel : goal.returns-in-Cancel
returns-in-Cancel g c =
    let cancelled : Cancels (agenda_of c.args.agenda.now) (string_bytes c.in-Cancel.label) c.cancel.result (agenda_of c.cancel.new.agenda) =
    subst (λ l. Cancels (agenda_of c.args.agenda.now) l c.cancel.result (agenda_of c.cancel.new.agenda)) c.as_str.ensures.value c.cancel.ensures.value in
    rw c.in-Cancel.is (performed_cancel c.args.agenda.now c.cancel.new.agenda c.in-Cancel.label c.cancel.result c.requires cancelled
    c.cancel.ensures.size c.cancel.ensures.clock)
