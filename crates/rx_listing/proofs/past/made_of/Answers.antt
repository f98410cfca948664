use Rattle.rx_listing.proofs.Common.{ℕ, Option, sym, ◌∙◌, Event, made_by}
use Rattle.rx_listing.proofs.Keeping.{kept_put, none_put, kept_all}
use Rattle.rx_listing.proofs.past.made_of.Goals.{in-Some+in_ok-keep_event, in_default}
use Rattle.rx_listing.proofs.past.made_of.Goals as goal

pub numbers-preserved : goal.numbers-preserved
numbers-preserved g c =
    let want : ℕ → Option Event = made_by c.args.book.now c.args.past.now in
    let ns = c.args.numbers.now in
    let i = c.numbers.number-index in
    elim c.match-made_at.branch [
      | in-Some+in_ok-keep_event w ↦
          rw w.made-is (kept_put want _ _ ns i _ c.numbers-test.true (sym c.made_at.ensures ∙ w.in-Some.is) w.in_ok-keep_event.ensures c.numbers.invariant)
      | in_default w ↦
          rw w.made-is (none_put want _ ns i c.numbers-test.true (sym c.made_at.ensures ∙ w.in_default.is) c.numbers.invariant)
    ]

pub returns : goal.returns
returns g c =
    kept_all (made_by c.args.book.now c.args.past.now) _ c.args.numbers.now c.numbers.number-index c.numbers-test.false c.numbers.invariant
