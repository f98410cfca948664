use Rattle.std.proofs.Common.{◌∙◌, refl, sym, ap}
use Rattle.rx_live.specs.Live.{session, answer}
use Rattle.cellarcliff.specs.Answers.{IsGiven, IsTextTooLong}
use Rattle.cellarcliff.specs.LiveCalls.{ends, ends_on, has_mail, is_starved}
use Rattle.cellarcliff.specs.Stages.{opened}
use Rattle.cellarcliff.proofs.WhatWaits.{has_unread, none_unread, still_none}
use Rattle.cellarcliff.proofs.kept.Kept.end.Goals as goal

pub returns-in-Some : goal.returns-in-Some
returns-in-Some c =
    let live = c.args.self.now.live in
    let it = has_unread (session live) (answer live) c.args.self.now.unread c.in-Some.length (sym c.in-Some.ensures)
    in has_mail it.waits refl refl (record { kept = refl; count = it.is })

pub returns-then-fits : goal.returns-then-fits
returns-then-fits c =
    let live = c.args.self.now.live in
    let given : IsGiven (answer c.end.new.self) c.args.buffer.now c.fits.new.buffer c.fits.new.told =
    rw (← c.answer.ensures, ← c.as_bytes.ensures.value) (c.fits.ensures.given c.if-fits.true)
    in ends (none_unread (session live) (answer live) c.args.self.now.unread (sym c.in_default.ensures))
    c.in-Ok.ensures.ok refl refl given

pub returns-else-fits : goal.returns-else-fits
returns-else-fits c =
    let live = c.args.self.now.live in
    let long : IsTextTooLong (answer c.end.new.self) c.args.buffer.now c.fits.new.buffer c.fits.new.told =
    rw (← c.answer.ensures, ← c.as_bytes.ensures.value) (c.fits.ensures.too_long c.if-fits.false)
    in ends_on (none_unread (session live) (answer live) c.args.self.now.unread (sym c.in_default.ensures))
    c.in-Ok.ensures.ok refl refl long

pub returns-in-Err : goal.returns-in-Err
returns-in-Err c =
    let live = c.args.self.now.live in
    let unread = c.args.self.now.unread in
    let was = none_unread (session live) (answer live) unread (sym c.in_default.ensures) in
    is_starved was
    (still_none (session c.end.new.self) (answer live) (answer c.end.new.self) unread (sym c.in_default.ensures)
    ∙ ap opened c.in-Err.ensures.err ∙ sym was)
    refl (record { kept = refl; count = refl })
