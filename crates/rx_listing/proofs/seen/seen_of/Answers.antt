use Rattle.rx_listing.proofs.Common.{◌≡◌, ◌<◌, length, Some, unwrap_or, sym, ap, ◌∙◌, arith, nat_eq, get, event_since, Seen, connection_by, uses_by}
use Rattle.rx_listing.proofs.Recalling.{uses_start, uses_most, use_more, use_same, connection_start, connection_more, connection_same}
use Rattle.rx_listing.proofs.seen.seen_of.Goals.{in-Some+in_ok-see, in_default}
use Rattle.rx_listing.proofs.seen.seen_of.Goals as goal

pub places-init : goal.places-init
places-init g c =
    let book = c.args.book.now in
    let past = c.args.known.now.past.now in
    let start = c.since-place.ensures in
    record {
      uses = λ r countable. ap (λ o. unwrap_or o 0) (c.in_ok-seen.ensures.uses r) ∙ sym (uses_start book past r c.since-place.result (omega arith));
      connections = λ n. c.in_ok-seen.ensures.connections n ∙ sym (connection_start book past n c.since-place.result (omega arith));
    }

pub places-preserved : goal.places-preserved
places-preserved g c =
    let book = c.args.book.now in
    let past = c.args.known.now.past.now in
    let k = c.places.place in
    elim c.match-event.branch [
      | in-Some+in_ok-see w ↦
          let there : event_since book.base book.history k ≡ Some w.in-Some.event = sym c.event.ensures ∙ w.in-Some.is in
          record {
            uses = λ r countable.
                let was = c.places.invariant.uses r countable in
                let most = uses_most book past r k in
                let within = c.places-test.true in
                let long = c.len-place-end.ensures in
                let few : unwrap_or (get nat_eq c.places.seen.uses r) 0 < 18446744073709551615 = omega arith in
                use_more book past r k there was (ap (λ (s : Seen). unwrap_or (get nat_eq s.uses r) 0) w.seen-is ∙ w.in_ok-see.ensures.uses r few);
            connections = λ n. connection_more book past n k there (c.places.invariant.connections n)
                (ap (λ (s : Seen). get nat_eq s.connections n) w.seen-is ∙ w.in_ok-see.ensures.connections n);
          }
      | in_default w ↦
          let none = sym c.event.ensures ∙ w.in_default.is in
          record {
            uses = λ r countable.
                use_same book past r k none (ap (λ (s : Seen). unwrap_or (get nat_eq s.uses r) 0) w.seen-is ∙ c.places.invariant.uses r countable);
            connections = λ n.
                connection_same book past n k none (ap (λ (s : Seen). get nat_eq s.connections n) w.seen-is ∙ c.places.invariant.connections n);
          }
    ]

pub returns-clause-uses : goal.returns-clause-uses
returns-clause-uses g c = λ r countable.
    let begun = c.promise.ensures.begun in
    let start = c.since-place.ensures in
    let long = c.len-place-end.ensures in
    let over = c.places-test.false in
    let most = c.places.auto.place-end (omega arith) in
    let end : c.places.place ≡ length c.args.book.now.history = omega arith in
    c.places.invariant.uses r countable ∙ ap (λ k. uses_by c.args.book.now c.args.known.now.past.now k r) end

pub returns-clause-connections : goal.returns-clause-connections
returns-clause-connections g c = λ n.
    let begun = c.promise.ensures.begun in
    let start = c.since-place.ensures in
    let long = c.len-place-end.ensures in
    let over = c.places-test.false in
    let most = c.places.auto.place-end (omega arith) in
    let end : c.places.place ≡ length c.args.book.now.history = omega arith in
    c.places.invariant.connections n ∙ ap (λ k. connection_by c.args.book.now c.args.known.now.past.now k n) end
