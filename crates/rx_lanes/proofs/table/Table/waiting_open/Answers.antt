use Rattle.std.proofs.Common.{◌≡◌, ◌∙◌, sym, ap, arith, ◌<◌, ◌+◌, ◌++◌, length, None, get_or, length-append}
use Rattle.rx_lanes.specs.Rows.{front_of, back_of}
use Rattle.rx_lanes.specs.Chains.{queue_at}
use Rattle.rx_lanes.specs.Lane.{line, listed}
use Rattle.rx_lanes.specs.Reports.{at_most_all}
use Rattle.rx_lanes.proofs.RowsShowLanes.{open_at, found_lane}
use Rattle.rx_lanes.proofs.ListsWalked.{capped-three}
use Rattle.std.proofs.lemmas.List.{get_or_default}
use Rattle.rx_lanes.proofs.table.Table.waiting_open.Goals as goal

pub index-requires : goal.index-requires
index-requires g c =
    let there = open_at c.self.inside.rows.items c.self.inside.returned.items c.self.inside.queues c.args.place (rw (← c.self.view_is) at c.requires.open) in
    omega (arith, there.within, c.self.invariant.given)

pub overflow_mul-place : goal.overflow_mul-place
overflow_mul-place g c =
    let there = open_at c.self.inside.rows.items c.self.inside.returned.items c.self.inside.queues c.args.place (rw (← c.self.view_is) at c.requires.open) in
    omega (arith, there.within, c.self.invariant.most)

pub waiting-with_front-requires : goal.waiting-with_front-requires
waiting-with_front-requires g c =
    let there = open_at c.self.inside.rows.items c.self.inside.returned.items c.self.inside.queues c.args.place (rw (← c.self.view_is) at c.requires.open) in
    record { queue = omega (arith, there.within, c.self.invariant.queued) }

pub overflow_mul-place-2 : goal.overflow_mul-place-2
overflow_mul-place-2 g c =
    let there = open_at c.self.inside.rows.items c.self.inside.returned.items c.self.inside.queues c.args.place (rw (← c.self.view_is) at c.requires.open) in
    omega (arith, there.within, c.self.invariant.most)

pub overflow_add-place : goal.overflow_add-place
overflow_add-place g c =
    let there = open_at c.self.inside.rows.items c.self.inside.returned.items c.self.inside.queues c.args.place (rw (← c.self.view_is) at c.requires.open) in
    omega (arith, there.within, c.self.invariant.most)

pub waiting-requires : goal.waiting-requires
waiting-requires g c =
    let there = open_at c.self.inside.rows.items c.self.inside.returned.items c.self.inside.queues c.args.place (rw (← c.self.view_is) at c.requires.open) in
    record { queue = omega (arith, there.within, c.self.invariant.queued) }

pub returns : goal.returns
returns g c =
    let there = open_at c.self.inside.rows.items c.self.inside.returned.items c.self.inside.queues c.args.place (rw (← c.self.view_is) at c.requires.open) in
    let i = c.self.inside in
    let within : c.args.place < length i.returned.items = omega (arith, there.within, c.self.invariant.given) in
    let r = get_or i.returned.items c.args.place None in
    let f = queue_at i.queues (front_of c.args.place) in
    let b = queue_at i.queues (back_of c.args.place) in
    let is : c.index.result.now ≡ r = c.index.ensures ∙ get_or_default i.returned.items c.args.place c.index.result.now None within in
    let sums : c.waiting.result ≡ at_most_all (c.args.so_far + (length (listed r) + (length f + length b))) =
    c.waiting.ensures ∙ ap (λ n. at_most_all (n + length b)) (c.waiting-with_front.ensures ∙ ap (λ n. at_most_all (n + length f))
    (c.with_returned-many.ensures ∙ ap (λ o. at_most_all (c.args.so_far + length (listed o))) is)) ∙ capped-three c.args.so_far (length (listed r)) (length f) (length b) in
    let lines : length (listed r ++ (f ++ b)) ≡ length (listed r) + (length f + length b) =
    length-append (listed r) (f ++ b) ∙ ap (λ n. length (listed r) + n) (length-append f b) in
    λ o. rw (← c.self.view_is) (λ found. sums ∙ ap (λ n. at_most_all (c.args.so_far + n)) (sym lines)
    ∙ sym (ap (λ o. at_most_all (c.args.so_far + length (line o.lane))) (found_lane i.rows.items i.returned.items i.queues c.args.place o there found)))
