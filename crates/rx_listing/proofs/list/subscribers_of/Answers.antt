use Rattle.rx_listing.proofs.Common.{arith, ◌<◌, sym, nat_eq, option_map_or, false, ap, ◌∙◌, count_by, length, is_some, range_with_len, take_all, name_of_number, subscribes}
use Rattle.rx_listing.proofs.Objects.{count_named, no_subscriber}
use Rattle.rx_listing.proofs.Keeping.{counted_more}
use Rattle.rx_listing.proofs.list.subscribers_of.Goals.{in-Some+in_ok-count, in_default}
use Rattle.rx_listing.proofs.list.subscribers_of.Goals as goal

pub returns : goal.returns
returns g c = λ placed hub.
    let book = c.args.book.now in
    let known = c.args.known.now in
    let len = length book.history in
    c.numbers.invariant hub
    ∙ ap (count_by (subscribes book known hub)) (take_all c.numbers.number-index c.deref-number-items.result.now c.numbers-test.false
    ∙ c.deref-number-items.ensures.value ∙ c.in_ok-numbers.ensures len placed)
    ∙ count_named (subscribes book known hub) (λ n. is_some (name_of_number known.nodes.now n)) (range_with_len 0 len) (λ n. no_subscriber book known n hub)

pub numbers-preserved : goal.numbers-preserved
numbers-preserved g c = λ hub.
    let book = c.args.book.now in
    let known = c.args.known.now in
    let ns = c.deref-number-items.result.now in
    let i = c.numbers.number-index in
    let within : i < length ns = c.numbers-test.true in
    let small : i < 18446744073709551615 = omega arith in
    let was = c.numbers.invariant hub in
    elim c.match-hub_of.branch [
      | in-Some+in_ok-count w ↦
          let is = ap (λ o. option_map_or (λ h. nat_eq h hub) o false) (sym c.hub_of.ensures ∙ w.in-Some.is) in
          rw w.subscribers-is (counted_more (subscribes book known hub) ns i _ _ _ within small is was (w.in_ok-count.ensures hub))
      | in_default w ↦
          let is = ap (λ o. option_map_or (λ h. nat_eq h hub) o false) (sym c.hub_of.ensures ∙ w.in_default.is) in
          rw w.subscribers-is (counted_more (subscribes book known hub) ns i _ _ _ within small is was (λ l. omega arith))
    ]
