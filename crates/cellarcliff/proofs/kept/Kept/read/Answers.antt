use Rattle.std.proofs.Common.{refl, ap}
use Rattle.rx_live.specs.Live.{session, answer}
use Rattle.cellarcliff.specs.Answers.{IsGiven, IsTextTooLong}
use Rattle.cellarcliff.specs.LiveCalls.{reads, reads_last, is_long, is_idle}
use Rattle.cellarcliff.specs.Stages.{handle_stage, stage_by, answer_waits, last_waits, Waits}
use Rattle.cellarcliff.proofs.kept.Kept.read.Goals as goal

pub returns-in-Nothing : goal.returns-in-Nothing
returns-in-Nothing c =
    is_idle (ap (stage_by (session c.args.self.now.live) (answer c.args.self.now.live)) c.in-Nothing.is) refl refl (record { kept = refl; count = refl })

pub returns-then-not-fits : goal.returns-then-not-fits
returns-then-not-fits c =
    let text = answer c.args.self.now.live in
    let long : IsTextTooLong text c.args.buffer.now c.fits.new.buffer c.fits.new.told =
    rw (← c.answer.ensures, ← c.as_bytes.ensures.value) (c.fits.ensures.too_long c.if-not-fits.true)
    in let waits : Waits text (handle_stage c.args.self.now) = rw c.in-Answer.is (answer_waits _)
    in is_long waits refl refl long

pub returns-else-not-fits : goal.returns-else-not-fits
returns-else-not-fits c =
    let text = answer c.args.self.now.live in
    let given : IsGiven text c.args.buffer.now c.fits.new.buffer c.fits.new.told =
    rw (← c.answer.ensures, ← c.as_bytes.ensures.value) (c.fits.ensures.given c.if-not-fits.false)
    in reads (ap (stage_by (session c.args.self.now.live) (answer c.args.self.now.live)) c.in-Answer.is) refl refl given

pub returns-then-fits : goal.returns-then-fits
returns-then-fits c =
    let text = answer c.args.self.now.live in
    let given : IsGiven text c.args.buffer.now c.fits-in-Last.new.buffer c.fits-in-Last.new.told =
    rw (← c.answer-in-Last.ensures, ← c.as_bytes-in-Last.ensures.value) (c.fits-in-Last.ensures.given c.if-fits.true)
    in reads_last (ap (stage_by (session c.args.self.now.live) (answer c.args.self.now.live)) c.in-Last.is) refl refl given

pub returns-else-fits : goal.returns-else-fits
returns-else-fits c =
    let text = answer c.args.self.now.live in
    let long : IsTextTooLong text c.args.buffer.now c.fits-in-Last.new.buffer c.fits-in-Last.new.told =
    rw (← c.answer-in-Last.ensures, ← c.as_bytes-in-Last.ensures.value) (c.fits-in-Last.ensures.too_long c.if-fits.false)
    in let waits : Waits text (handle_stage c.args.self.now) = rw c.in-Last.is last_waits
    in is_long waits refl refl long
