use Rattle.rx_audit.proofs.Common.{arith}
use Rattle.rx_audit.proofs.ClosingBelow.{noted_last}
use Rattle.std.proofs.lemmas.List.{get_or_default}
use Rattle.rx_audit.proofs.DueLists.{keeps_more, keeps_on, lost_more, lost_all}
use Rattle.rx_audit.proofs.duties.note_left.Goals as goal

pub loop-s-init : goal.loop-s-init
loop-s-init c = record { keeps = λ n w. w; lost = λ k l. absurd (omega arith) }

pub loop-s-preserved : goal.loop-s-preserved
loop-s-preserved c = record {
  keeps = keeps_on c.args.due.now.items c.loop-s.due.items c.note_connection.new.due.items c.loop-s.invariant.keeps c.in_ok-note_connection.ensures.keeps;
  lost = lost_more c.args.past.now c.args.closed.now c.args.hubs.now.connection.items c.loop-s.s-index c.loop-s.invariant.lost
      c.in_ok-note_connection.ensures.keeps
      (rw (get_or_default c.args.closed.now c.loop-s.s-index _ 0 (omega arith)) at c.in_ok-note_connection.ensures.lost);
}

pub returns-clause-keeps : goal.returns-clause-keeps
returns-clause-keeps c = rw c.in_ok-push.ensures.items (keeps_on _ _ _ c.loop-s.invariant.keeps (keeps_more c.loop-s.due.items _))

pub returns-clause-lost : goal.returns-clause-lost
returns-clause-lost c = rw c.in_ok-push.ensures.items (λ s g k noted hub word. keeps_more c.loop-s.due.items _ k
    (lost_all _ _ _ _ c.loop-s.s-index (omega arith) c.loop-s.invariant.lost s g k noted hub word))

pub returns-clause-new : goal.returns-clause-new
returns-clause-new c = rw c.in_ok-push.ensures.items (noted_last 0 _ _ (omega arith))
