use Rattle.rx_picture.proofs.Common.{sym, marked}
use Rattle.std.proofs.Common.{refl}
use Rattle.rx_event.specs.declared.mail.Mail.{Mail}
use Rattle.rx_picture.proofs.MarblesOfPrefixes.{note_shown, note_hidden}
use Rattle.rx_picture.proofs.marbles.push_mail.Goals as goal

pub returns-in_ok-push_once-in-Some : goal.returns-in_ok-push_once-in-Some
returns-in_ok-push_once-in-Some c =
    rw (c.in-Some.is, c.in_ok-push_once-in-Some.ensures)
    (note_shown (λ (m : Mail). marked c.args.tracks.now m.to) c.args.told.now.items c.in-Some.mail
    (sym c.if-is_marked.ensures))

pub returns-else-is_marked : goal.returns-else-is_marked
returns-else-is_marked c =
    rw c.in-Some.is
    (note_hidden (λ (m : Mail). marked c.args.tracks.now m.to) c.args.told.now.items c.in-Some.mail
    (sym c.if-is_marked.ensures))

pub returns-in-None : goal.returns-in-None
returns-in-None c = rw c.in-None.is refl
