use Rattle.std.proofs.Common.{◌≡◌, ap}
use Rattle.cellarcliff.specs.Stages.{left, handle_stage, absent}
use Rattle.cellarcliff.proofs.live.cellar_live_read.Goals as goal

pub returns-then-not-is_over : goal.returns-then-not-is_over
returns-then-not-is_over c =
    rw (c.in-Some.ensures.taken, c.put.ensures, ← c.deref_mut.ensures.value)
    (let is : left c.read-status.result.1 c.read-status.new.self ≡ handle_stage c.read-status.new.self =
    ap (λ b. left b c.read-status.new.self) c.if-not-is_over.true
    in rw (← is) c.read-status.ensures)

pub returns-else-not-is_over : goal.returns-else-not-is_over
returns-else-not-is_over c =
    rw (c.in-Some.ensures.taken, c.in-Some.ensures.left, ← c.deref_mut.ensures.value)
    (let is : left c.read-status.result.1 c.read-status.new.self ≡ absent =
    ap (λ b. left b c.read-status.new.self) c.if-not-is_over.false
    in rw (← is) c.read-status.ensures)
