use Rattle.rx_audit.proofs.Common.{length, AreLinked, AreLetGo}
use Rattle.rx_audit.proofs.subscribers.let_go.Given as goal

abbrev pub invariant-loop-s : goal.invariant-loop-s
invariant-loop-s l = record {
  linked : AreLinked l.past (length l.initial.subs.listed.items) l.subs;
  listed : AreLetGo l.initial.subs.listed.items l.subs.listed.items l.closed l.s-index;
}
