use Rattle.rx_storm.proofs.Common.{◌-◌, arith, events_of}
use Rattle.rx_storm.proofs.Emission.{items_at-none, none_counted, items_at-more, one_counted, begun_before, on_err}
use Rattle.rx_storm.proofs.batches.emit_some.Goals as goal

pub loop-number-init : goal.loop-number-init
loop-number-init g c = record {
  emitted = items_at-none c.args.leaf.number c.args.first (events_of c.args.receipts.now.items);
  counted = none_counted c.args.seat.now (c.args.first - c.args.first) (omega arith);
}

pub loop-number-preserved : goal.loop-number-preserved
loop-number-preserved g c = record {
  emitted = items_at-more c.args.leaf.number c.args.first c.loop-number.number _ _ _ c.loop-number.auto.number
      c.loop-number.invariant.emitted c.in_ok-emit_one.ensures.emitted;
  counted = one_counted c.args.first c.loop-number.number c.args.seat.now c.loop-number.seat _ c.loop-number.auto.number
      c.loop-number.invariant.counted c.in_ok-emit_one.ensures.counted;
}

pub returns-in_err-emit_one-clause-begun : goal.returns-in_err-emit_one-clause-begun
returns-in_err-emit_one-clause-begun g c = on_err c.from_residual.result _
    (begun_before c.args.leaf.number c.args.first c.loop-number.number c.args.end _ _ _ _ _ _
    c.loop-number.auto.number c.loop-number-test.true c.loop-number.invariant.emitted c.loop-number.invariant.counted
    c.in_err-emit_one.ensures.kept c.in_err-emit_one.ensures.uncounted)
