use Rattle.rx_storm.proofs.Common.{◌≡◌, ◌≤◌, ◌<◌, ◌+◌, ℕ, List, [], ◌∷◌, ◌++◌, sym, ap, ◌∙◌, refl, arith, append-nil, on_ok_weaker, on_err_weaker, Completed, Event, End}
use Rattle.rx_storm.proofs.Common.{items_at, events_of}
use Rattle.rx_storm.proofs.Emission.{none_counted, items_at-joined, counts_joined, begun_within, begun_all, on_err}
use Rattle.rx_storm.proofs.batches.emit_each.Goals as goal

pub loop-next-init : goal.loop-next-init
loop-next-init g c = record {
  within = omega arith;
  emitted = sym (append-nil (events_of c.args.receipts.now.items));
  counted = none_counted c.args.seat.now 0 refl;
}

pub loop-next-preserved : goal.loop-next-preserved
loop-next-preserved g c =
    let later : c.loop-next.next < c.batch_end-end.result = c.batch_end-end.ensures.within.0 in
    let up : c.loop-next.next ≤ c.batch_end-end.result = omega (arith, later) in
    record {
      within = c.batch_end-end.ensures.within.1;
      emitted = items_at-joined c.args.leaf.number c.loop-next.next c.batch_end-end.result _ _ _ up
          c.loop-next.invariant.emitted c.in_ok-emit_some.ensures.emitted;
      counted = counts_joined c.loop-next.next c.batch_end-end.result c.args.seat.now c.loop-next.seat _ up
          c.loop-next.invariant.counted c.in_ok-emit_some.ensures.counted;
    }

pub returns-clause-emitted : goal.returns-clause-emitted
returns-clause-emitted g c =
    let within = c.loop-next.invariant.within in
    let over = c.loop-next-test.false in
    let all : c.loop-next.next ≡ c.args.items = omega (arith, within, over) in
    let before = events_of c.args.receipts.now.items in
    on_ok_weaker c.complete.result
    (λ told. told ∙ ap (λ (l : List Event). l ++ End c.args.leaf.number Completed ∷ [])
    (c.loop-next.invariant.emitted ∙ ap (λ (n : ℕ). before ++ items_at c.args.leaf.number 0 n) all)) c.complete.ensures.ended

pub returns-clause-counted : goal.returns-clause-counted
returns-clause-counted g c =
    let within = c.loop-next.invariant.within in
    let over = c.loop-next-test.false in
    let all : c.loop-next.next ≡ c.args.items = omega (arith, within, over) in
    let first = c.args.seat.now in
    on_ok_weaker c.complete.result
    (λ _. c.loop-next.invariant.counted ∙ ap (λ (n : ℕ). record first { items = first.items + n }) all) c.complete.ensures.ended

pub returns-in_err-emit_some-clause-begun : goal.returns-in_err-emit_some-clause-begun
returns-in_err-emit_some-clause-begun g c = on_err c.from_residual.result _
    (begun_within c.args.leaf.number c.loop-next.next c.batch_end-end.result c.args.items c.args.seat.now _ _ _ _ _
    c.batch_end-end.ensures.within.1 c.loop-next.invariant.emitted c.loop-next.invariant.counted c.in_err-emit_some.ensures.begun)

pub returns-clause-begun : goal.returns-clause-begun
returns-clause-begun g c =
    let within = c.loop-next.invariant.within in
    let over = c.loop-next-test.false in
    let all : c.loop-next.next ≡ c.args.items = omega (arith, within, over) in
    let before = events_of c.args.receipts.now.items in
    let first = c.args.seat.now in
    on_err_weaker c.complete.result (begun_all c.args.leaf.number c.args.items first _ c.args.receipts.now.items c.loop-next.receipts.items _
    (c.loop-next.invariant.emitted ∙ ap (λ (n : ℕ). before ++ items_at c.args.leaf.number 0 n) all)
    (c.loop-next.invariant.counted ∙ ap (λ (n : ℕ). record first { items = first.items + n }) all)) c.complete.ensures.kept
