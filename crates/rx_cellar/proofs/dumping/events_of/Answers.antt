use Rattle.std.proofs.Common.{◌<◌, length, sym, ap, ◌∙◌, arith}
use Rattle.rx_book.proofs.Laws.EventsWithoutBase.{event_more, event_there}
use Rattle.rx_cellar.proofs.dumping.events_of.Goals as goal
use Rattle.rx_cellar.proofs.dumping.events_of.Goals.{in-Some+in_ok-push, in_default}

pub places-preserved : goal.places-preserved
places-preserved c =
    let b = c.args.book.now.base in
    let h = c.args.book.now.history in
    let within : c.places.place < length h = let t = c.places-test.true in let l = c.len-place-end.ensures in omega (arith, t, l) in
    elim c.match-event.branch [
      | in-Some+in_ok-push w ↦ event_more b h c.places.place c.requires within
          (sym c.event.ensures ∙ w.in-Some.is)
          c.places.invariant (ap (λ v. v.items) w.events-is ∙ w.in_ok-push.ensures.items)
      | in_default w ↦ absurd (event_there b h c.places.place c.requires within (sym c.event.ensures ∙ w.in_default.is))
    ]
