use Rattle.rx_live.proofs.Common.{sym, ◌∙◌, refl, session_of}
use Rattle.rx_live.proofs.AcceptedBindsNames.{none_of}
use Rattle.rx_live.proofs.SessionAfterCheckpoint.{renews, renewed_sound, mail_left, refused_cause, renewing_refused}
use Rattle.rx_live.proofs.renewing.renew.Goals as goal

pub returns-then-is_some-clause-ok : goal.returns-then-is_some-clause-ok
returns-then-is_some-clause-ok c = (mail_left (session_of c.args.engine.now) (sym c.is_some.ensures ∙ c.if-is_some.true), refl)

pub returns-in-Ok-clause-ok : goal.returns-in-Ok-clause-ok
returns-in-Ok-clause-ok c =
    let s = session_of c.args.engine.now in
    renews s c.checkpoint.new.self c.forget_all_closed.new.nodes (none_of s.untold (sym c.is_some.ensures ∙ c.if-is_some.false)) c.promise.ensures
    c.in-Ok.ensures.made c.forget_all_closed.ensures.same c.forget_all_closed.ensures.open_alone

pub returns-in-Ok-clause-sound : goal.returns-in-Ok-clause-sound
returns-in-Ok-clause-sound c =
    renewed_sound (session_of c.args.engine.now) c.checkpoint.new.self c.forget_all_closed.new.nodes c.requires c.promise.ensures c.in-Ok.ensures.made
    c.forget_all_closed.ensures.paired c.forget_all_closed.ensures.same

pub returns-in-Err-clause-ok : goal.returns-in-Err-clause-ok
returns-in-Err-clause-ok c =
    let s = session_of c.args.engine.now in
    let none = none_of s.untold (sym c.is_some.ensures ∙ c.if-is_some.false) in
    renewing_refused s c.checkpoint.new.self c.in-Err.why c.answered.result c.answered.ensures.ok (refused_cause s c.in-Err.why none c.in-Err.ensures.refused)
    c.in-Err.ensures.kept
