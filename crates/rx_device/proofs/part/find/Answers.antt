use Rattle.std.proofs.Common.{◌≡◌, ◌+◌, ◌-◌, sym, ◌∙◌, arith}
use Rattle.rx_device.proofs.Parts.{found_last, found_before}
use Rattle.rx_device.proofs.part.find.Goals as goal

pub returns-then-is_key : goal.returns-then-is_key
returns-then-is_key c =
    let next : c.loop-left.left ≡ (c.loop-left.left - 1) + 1 = omega arith in
    sym (c.loop-left.invariant.same ∙ found_last c.args.name.now c.args.members.now.items (c.loop-left.left - 1) c.loop-left.left c.index-member.result.now
    (omega arith) next c.index-member.ensures (sym c.is_key.ensures ∙ c.if-is_key.true))

pub loop-left-preserved : goal.loop-left-preserved
loop-left-preserved c =
    let next : c.loop-left.left ≡ (c.loop-left.left - 1) + 1 = omega arith in
    record {
      same = c.loop-left.invariant.same ∙ found_before c.args.name.now c.args.members.now.items (c.loop-left.left - 1) c.loop-left.left
          c.index-member.result.now (omega arith) next c.index-member.ensures (sym c.is_key.ensures ∙ c.if-is_key.false);
      within = omega arith;
    }
