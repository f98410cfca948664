use Rattle.std.proofs.Common.{◌≡◌, ◌+◌, ◌∷◌, [], List, None, Some, Ok, slice_get, sym, ap, ◌∙◌, arith, subst}
use Rattle.rx_event.specs.declared.mail.Mail.{Mail}
use Rattle.rx_event.specs.Notes.{notes}
use Rattle.rx_book.specs.State.{State as BookState}
use Rattle.rx_roles.specs.Effects.{AllListened, items_in}
use Rattle.rx_engine.specs.Rooms.{IsReady}
use Rattle.rx_engine.specs.Settlements.{mail_left}
use Rattle.rx_engine.specs.HandingSteps.{TellsAndHands}
use Rattle.rx_engine.proofs.MailLeft.{left_more, left_none}
use Rattle.rx_engine.proofs.NotesTold.{tells_none, tells_behind, told_loaded}
use Rattle.rx_engine.proofs.ItemsHanded.{handed_many, handed_nothing, given_all, given_more, given_within}
use Rattle.rx_engine.proofs.handing.hand_item.Goals as goal

-- no note
pub spread_some-requires : goal.spread_some-requires
spread_some-requires c =
    let none = left_none c.args.book.now c.in_default.ensures.value in
    told_loaded (subst (λ (ms : List Mail). IsReady (items_in ms) c.args.parts.now) none c.requires.ready) (tells_none c.args.by c.args.value c.args.parts.now)

pub returns-in_default-clause-book : goal.returns-in_default-clause-book
returns-in_default-clause-book c =
    given_all c.args.book.now c.take_mail.new.self c.promise.ensures.given c.in_default.ensures.value c.in_default.ensures.given

pub returns-in_default-clause-hands : goal.returns-in_default-clause-hands
returns-in_default-clause-hands c =
    subst (λ (ms : List Mail). TellsAndHands c.args.by c.args.value ms c.args.parts.now c.spread_some.new.parts (Ok None))
    (sym (left_none c.args.book.now c.in_default.ensures.value))
    (handed_nothing c.requires.ready.empty c.spread_some.ensures.spreads c.spread_some.ensures.ready c.spread_some.ensures.promised)

pub returns-in_default-clause-ready : goal.returns-in_default-clause-ready
returns-in_default-clause-ready c = c.spread_some.ensures.ready

-- one note
one_left : (b s t : BookState) (m : Mail) → Some m ≡ slice_get (notes b.history) b.given → s ≡ record b { given = b.given + 1 } →
    None ≡ slice_get (notes s.history) s.given → mail_left b ≡ m ∷ []
one_left b s t m found is none = left_more b s m found is ∙ ap (λ (ms : List Mail). m ∷ ms) (left_none s none)

pub hand_one-requires : goal.hand_one-requires
hand_one-requires c = record {
  ready = subst (λ (ms : List Mail). IsReady (items_in ms) c.args.parts.now)
      (one_left c.args.book.now c.take_mail.new.self c.take_mail-2.new.self c.in-Some.first c.in-Some.ensures.value c.in-Some.ensures.given
      c.in_default-take_mail.ensures.value) c.requires.ready;
}

pub returns-in_default-take_mail-clause-book : goal.returns-in_default-take_mail-clause-book
returns-in_default-take_mail-clause-book c =
    let within = given_within c.args.book.now c.take_mail.new.self c.in-Some.first c.in-Some.ensures.value c.in-Some.ensures.given in
    given_more c.args.book.now c.take_mail.new.self c.take_mail-2.new.self c.in-Some.ensures.given
    (given_all c.take_mail.new.self c.take_mail-2.new.self within c.in_default-take_mail.ensures.value c.in_default-take_mail.ensures.given)

pub returns-in_default-take_mail-clause-hands : goal.returns-in_default-take_mail-clause-hands
returns-in_default-take_mail-clause-hands c =
    subst (λ (ms : List Mail). TellsAndHands c.args.by c.args.value ms c.args.parts.now c.hand_one.new.parts c.hand_one.result)
    (sym (one_left c.args.book.now c.take_mail.new.self c.take_mail-2.new.self c.in-Some.first c.in-Some.ensures.value c.in-Some.ensures.given
    c.in_default-take_mail.ensures.value)) c.hand_one.ensures.hands

pub returns-in_default-take_mail-clause-ready : goal.returns-in_default-take_mail-clause-ready
returns-in_default-take_mail-clause-ready c = c.hand_one.ensures.ready

-- several
both_left : (b s t : BookState) (m n : Mail) → Some m ≡ slice_get (notes b.history) b.given → s ≡ record b { given = b.given + 1 } →
    Some n ≡ slice_get (notes s.history) s.given → t ≡ record s { given = s.given + 1 } → mail_left b ≡ m ∷ (n ∷ mail_left t)
both_left b s t m n found is next then = left_more b s m found is ∙ ap (λ (ms : List Mail). m ∷ ms) (left_more s t n next then)

pub tell_note-requires : goal.tell_note-requires
tell_note-requires c = record {
  room =
      let left = ap items_in (both_left c.args.book.now c.take_mail.new.self c.take_mail-2.new.self c.in-Some.first c.in-Some-take_mail.second
      c.in-Some.ensures.value c.in-Some.ensures.given c.in-Some-take_mail.ensures.value c.in-Some-take_mail.ensures.given) in
      let had = c.requires.ready.room in
      omega (arith, left, had);
}

pub tell_note-requires-2 : goal.tell_note-requires-2
tell_note-requires-2 c = record {
  room =
      let left = ap items_in (both_left c.args.book.now c.take_mail.new.self c.take_mail-2.new.self c.in-Some.first c.in-Some-take_mail.second
      c.in-Some.ensures.value c.in-Some.ensures.given c.in-Some-take_mail.ensures.value c.in-Some-take_mail.ensures.given) in
      let had = c.requires.ready.room in let one = c.tell_note.ensures.room in
      omega (arith, left, had, one);
}

pub tell_rest-requires : goal.tell_rest-requires
tell_rest-requires c = record {
  room =
      let left = ap items_in (both_left c.args.book.now c.take_mail.new.self c.take_mail-2.new.self c.in-Some.first c.in-Some-take_mail.second
      c.in-Some.ensures.value c.in-Some.ensures.given c.in-Some-take_mail.ensures.value c.in-Some-take_mail.ensures.given) in
      let had = c.requires.ready.room in let one = c.tell_note.ensures.room in let two = c.tell_note-2.ensures.room in
      omega (arith, left, had, one, two);
}

pub spread_some-requires-2 : goal.spread_some-requires-2
spread_some-requires-2 c =
    told_loaded (subst (λ (ms : List Mail). IsReady (items_in ms) c.args.parts.now)
    (both_left c.args.book.now c.take_mail.new.self c.take_mail-2.new.self c.in-Some.first c.in-Some-take_mail.second
    c.in-Some.ensures.value c.in-Some.ensures.given c.in-Some-take_mail.ensures.value c.in-Some-take_mail.ensures.given) c.requires.ready)
    (tells_behind c.tell_note.ensures (tells_behind c.tell_note-2.ensures c.tell_rest.ensures.tells))

pub returns-clause-book : goal.returns-clause-book
returns-clause-book c =
    given_more c.args.book.now c.take_mail.new.self c.tell_rest.new.book c.in-Some.ensures.given
    (given_more c.take_mail.new.self c.take_mail-2.new.self c.tell_rest.new.book c.in-Some-take_mail.ensures.given c.tell_rest.ensures.book)

pub returns-clause-hands : goal.returns-clause-hands
returns-clause-hands c =
    let left = both_left c.args.book.now c.take_mail.new.self c.take_mail-2.new.self c.in-Some.first c.in-Some-take_mail.second
    c.in-Some.ensures.value c.in-Some.ensures.given c.in-Some-take_mail.ensures.value c.in-Some-take_mail.ensures.given in
    subst (λ (ms : List Mail). TellsAndHands c.args.by c.args.value ms c.args.parts.now c.spread_some-2.new.parts (Ok None)) (sym left)
    (handed_many c.requires.ready.empty
    (subst (λ (ms : List Mail). AllListened c.args.parts.now.hears.list c.args.parts.now.merges.list ms) left c.requires.listened)
    (record {
      told = c.tell_rest.new.parts;
      tells = tells_behind c.tell_note.ensures (tells_behind c.tell_note-2.ensures c.tell_rest.ensures.tells);
      spreads = c.spread_some-2.ensures.spreads;
      ready = c.spread_some-2.ensures.ready;
      promised = c.spread_some-2.ensures.promised;
    }))

pub returns-clause-ready : goal.returns-clause-ready
returns-clause-ready c = c.spread_some-2.ensures.ready
