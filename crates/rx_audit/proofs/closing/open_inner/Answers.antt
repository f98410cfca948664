use Rattle.rx_audit.proofs.Common.{◌≡◌, ◌-◌, true, length, sym, ◌∙◌, arith, get_or_read, at, is_switch, at_within}
use Rattle.rx_audit.proofs.Latest.{last_le}
use Rattle.rx_audit.proofs.ClosingBelow.{inner_none, inner_alone}
use Rattle.rx_audit.proofs.closing.open_inner.Goals.{else-f-c-via-then-f-c+else-marks-c, else-f-c-via-else-f-c}
use Rattle.rx_audit.proofs.closing.open_inner.Goals as goal
use Rattle.std.proofs.Common.{rules}

pub returns-then-youngest-eq0 : goal.returns-then-youngest-eq0
returns-then-youngest-eq0 c = search (rules, at_within, get_or_read, inner_none)

pub bounds-marks-c : goal.bounds-marks-c
bounds-marks-c c = search (rules, at_within, get_or_read, last_le, length)

pub returns-then-marks-c : goal.returns-then-marks-c
returns-then-marks-c c =
    let h = c.args.past.now in
    let v = c.index.result.now in
    let size = c.requires.children.inner_size in
    let switch : at is_switch h c.args.f ≡ true = sym c.if-not-is_switch_at.ensures in
    let inside = at_within is_switch h c.args.f switch in
    let is = get_or_read c.args.children.now.inner.items c.args.f v (omega arith) c.index.ensures 0 ∙ c.requires.children.inner c.args.f (omega arith) in
    inner_alone h c.args.f v switch is (omega arith) (omega arith) (sym (c.requires.tied (v - 1)) ∙ c.if-marks-c.true)

pub returns-else-f-c : goal.returns-else-f-c
returns-else-f-c c = search (rules, at_within, get_or_read, else-f-c-via-then-f-c+else-marks-c, inner_none, else-f-c-via-else-f-c)
