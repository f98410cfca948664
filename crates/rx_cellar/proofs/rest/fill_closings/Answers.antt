use Rattle.std.proofs.Common.{◌<◌, length, sym, ◌∙◌, arith}
use Rattle.rx_cellar.proofs.WordsFilled.{fills_long, fill_steps, fill_full_ends, fill_counts, there_is}
use Rattle.rx_cellar.proofs.rest.fill_closings.Goals as goal
use Rattle.rx_cellar.proofs.rest.fill_closings.Goals.{in-Some, in_default}

pub returns-then-count-words-clause-words : goal.returns-then-count-words-clause-words
returns-then-count-words-clause-words c =
    let l = fills_long c.loop-n.invariant in
    fill_full_ends c.loop-n.invariant (let h = c.if-count-words.true in omega (arith, h, l))

pub loop-n-preserved : goal.loop-n-preserved
loop-n-preserved c =
    let closings = c.args.engine.now.wishes.closings in
    let l = fills_long c.loop-n.invariant in
    let inside : c.loop-n.n < length closings = let t = c.loop-n-test.true in let e = c.closing_count-n-end.ensures in omega (arith, t, e) in
    let room : c.loop-n.count < length c.args.words.now = let h = c.if-count-words.false in omega (arith, h, l, c.loop-n.invariant.fits) in
    elim c.match-nth_closing.branch [
      | in-Some w ↦ fill_steps w.in-Some.word c.match-nth_closing.words c.loop-n.invariant (sym c.nth_closing.ensures ∙ w.in-Some.is) inside room w.words-is
      | in_default w ↦ absurd (there_is closings c.loop-n.n inside (sym c.nth_closing.ensures ∙ w.in_default.is))
    ]

pub returns-clause-count : goal.returns-clause-count
returns-clause-count c = fill_counts c.loop-n.invariant (let t = c.loop-n-test.false in let e = c.closing_count-n-end.ensures in omega (arith, t, e))
