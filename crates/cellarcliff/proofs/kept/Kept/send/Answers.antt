use Rattle.std.proofs.Common.{refl, sym}
use Rattle.rx_live.specs.Live.{session, answer}
use Rattle.cellarcliff.specs.Answers.{IsGiven, IsTextTooLong}
use Rattle.cellarcliff.specs.LiveCalls.{sends, sends_on, has_mail, is_starved}
use Rattle.cellarcliff.proofs.WhatWaits.{has_unread, none_unread, still_none}
use Rattle.cellarcliff.proofs.kept.Kept.send.Goals as goal

pub returns-in-Some : goal.returns-in-Some
returns-in-Some c =
    let live = c.args.self.now.live in
    let it = has_unread (session live) (answer live) c.args.self.now.unread c.in-Some.length (sym c.in-Some.ensures)
    in has_mail it.waits refl refl (record { kept = refl; count = it.is })

pub returns-then-fits : goal.returns-then-fits
returns-then-fits c =
    let live = c.args.self.now.live in
    let unread = c.args.self.now.unread in
    let text = answer c.send.new.self in
    let given : IsGiven text c.args.buffer.now c.fits.new.buffer c.fits.new.told =
    rw (← c.answer.ensures, ← c.as_bytes.ensures.value) (c.fits.ensures.given c.if-fits.true)
    in sends (none_unread (session live) (answer live) unread (sym c.in_default.ensures)) c.in-Ok.ensures.ok
    (still_none (session c.send.new.self) (answer live) text unread (sym c.in_default.ensures)) refl given

pub returns-else-fits : goal.returns-else-fits
returns-else-fits c =
    let live = c.args.self.now.live in
    let text = answer c.send.new.self in
    let long : IsTextTooLong text c.args.buffer.now c.fits.new.buffer c.fits.new.told =
    rw (← c.answer.ensures, ← c.as_bytes.ensures.value) (c.fits.ensures.too_long c.if-fits.false)
    in sends_on (none_unread (session live) (answer live) c.args.self.now.unread (sym c.in_default.ensures))
    c.in-Ok.ensures.ok refl refl long

pub returns-in-Err : goal.returns-in-Err
returns-in-Err c =
    let live = c.args.self.now.live in
    let unread = c.args.self.now.unread in
    is_starved (none_unread (session live) (answer live) unread (sym c.in_default.ensures)) c.in-Err.ensures.err c.in-Err.ensures.free
    (still_none (session c.send.new.self) (answer live) (answer c.send.new.self) unread (sym c.in_default.ensures)) refl
    (record { kept = refl; count = refl })
