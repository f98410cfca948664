use Rattle.std.proofs.Common.{◌+◌, ◌-◌, ◌/◌, vec_capacity, vec_len, arith}
use Rattle.rx_segments.proofs.KeptSteps.{length_items, kept_filled, whole_last, all_counted}
use Rattle.rx_segments.proofs.pieces.add_pieces.Goals as goal

pub returns-clause-kept : goal.returns-clause-kept
returns-clause-kept g c =
    let full = c.args.full.now in
    let last = c.args.last.now in
    let spare = c.args.spare.now in
    let n = c.args.n in
    let held = c.len.result in
    let count = (held + n - 1) / 4096 in
    kept_filled full c.reserve.new.self last spare c.fill.new.spare c.requires.kept count c.fill.ensures.empty c.reserve.ensures.items
    (omega (arith, c.in_ok-reserve.ensures.ok, c.reserve.ensures.len)) c.fill.ensures.most
    (whole_last (vec_capacity last) held c.len-2.result n (omega (arith, c.requires.wide, c.len.ensures)) c.requires.kept.most c.if-count-len.false)
    (all_counted (vec_len full) held n (omega (arith, length_items full last spare c.requires.kept, c.requires.within, c.len.ensures)))
