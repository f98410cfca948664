use Rattle.rx_live.proofs.Common.{sym, ◌∙◌, session_of}
use Rattle.rx_live.proofs.Tellings.{next_told, none_told}
use Rattle.rx_live.proofs.telling.next_mail.Goals as goal

pub returns-in-None-clause-some : goal.returns-in-None-clause-some
returns-in-None-clause-some c =
    next_told (session_of c.args.engine.now) c.take_mail-mail.result c.take_mail-mail.new.self c.take.new.self (sym c.take.ensures.value ∙ c.in-None.is)
    c.take.ensures.after c.take_mail-mail.ensures.value c.take_mail-mail.ensures.given

pub returns-in-None-clause-all : goal.returns-in-None-clause-all
returns-in-None-clause-all c =
    none_told (session_of c.args.engine.now) c.take_mail-mail.result (sym c.take.ensures.value ∙ c.in-None.is) c.take_mail-mail.ensures.value
