use Rattle.std.proofs.Common.{◌++◌, List, length, refl, sym, ap, ◌∙◌, arith, append_assoc, append-nil}
use Rattle.rx_event.specs.declared.mail.Mail.{Mail}
use Rattle.rx_event.specs.Notes.{notes}
use Rattle.rx_book.specs.State.{State}
use Rattle.rx_roles.specs.declared.roles.Role.{Role}
use Rattle.rx_roles.specs.declared.effect.Effect.{Effect}
use Rattle.rx_roles.specs.Effects.{after_all, all_told, items_in}
use Rattle.rx_roles.proofs.Laws.RolesTaken.{told_paid}
use Rattle.rx_engine.specs.Settlements.{mail_left}
use Rattle.rx_engine.proofs.MailLeft.{left_more, left_none, given_on, get_within}
use Rattle.rx_engine.proofs.telling.tell.Goals as goal

pub loop-mail-init : goal.loop-mail-init
loop-mail-init c = record { within = c.promise.ensures.given; book = refl; hears = refl; effects = refl; room = omega arith }

pub tell_one-requires : goal.tell_one-requires
tell_one-requires c =
    let i = c.loop-mail.invariant in
    let more = ap items_in (left_more c.loop-mail.book c.take_mail.new.self c.in-Some.mail c.in-Some.ensures.value c.in-Some.ensures.given) in
    let paid = told_paid c.loop-mail.hears.list c.args.merges.now.list c.in-Some.mail in
    let room = i.room in let had = c.requires.room in
    omega (arith, more, paid, room, had)

pub loop-mail-preserved : goal.loop-mail-preserved
loop-mail-preserved c =
    let i = c.loop-mail.invariant in
    let s = c.loop-mail.book in
    let t = c.take_mail.new.self in
    let m = c.in-Some.mail in
    let te = c.tell_one.ensures in
    let hears = c.loop-mail.hears.list in
    let merges = c.args.merges.now.list in
    let left = left_more s t m c.in-Some.ensures.value c.in-Some.ensures.given in
    record {
      within =
          let w = get_within (notes s.history) s.given m (sym c.in-Some.ensures.value) in
          let g = ap (λ (x : State). x.given) c.in-Some.ensures.given in
          let n = ap (λ (x : State). length (notes x.history)) c.in-Some.ensures.given in
          omega (arith, w, g, n);
      book = given_on c.args.book.now s t i.book c.in-Some.ensures.given;
      hears = ap (λ (rs : List Role). after_all rs (mail_left t)) te.hears ∙ sym (ap (after_all hears) left) ∙ i.hears;
      effects = (λ j. te.effects j ++ all_told c.args.by c.args.value (te.hears j) merges (mail_left t))
          ∙ append_assoc c.loop-mail.effects.list _ _
          ∙ ap (λ (es : List Effect). c.loop-mail.effects.list ++ es) (sym (ap (all_told c.args.by c.args.value hears merges) left))
          ∙ i.effects;
      room =
          let more = ap items_in left in
          let paid = told_paid hears merges m in
          let had = i.room in let spent = te.room in let fewer = ap (length {A = Role}) te.hears in
          omega (arith, more, paid, had, spent, fewer);
    }

pub returns-clause-hears : goal.returns-clause-hears
returns-clause-hears c =
    let none = left_none c.loop-mail.book c.in_default.ensures.value in
    sym (ap (after_all c.loop-mail.hears.list) none) ∙ c.loop-mail.invariant.hears

pub returns-clause-effects : goal.returns-clause-effects
returns-clause-effects c =
    let none = left_none c.loop-mail.book c.in_default.ensures.value in
    sym (append-nil c.loop-mail.effects.list)
    ∙ sym (ap (λ (ms : List Mail). c.loop-mail.effects.list ++ all_told c.args.by c.args.value c.loop-mail.hears.list c.args.merges.now.list ms) none)
    ∙ c.loop-mail.invariant.effects
