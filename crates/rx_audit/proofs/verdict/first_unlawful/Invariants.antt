use Rattle.rx_audit.proofs.Common.{length, take, nothing_kept, IsLawful, AreListsFound, IsFollowed}
use Rattle.rx_audit.proofs.verdict.first_unlawful.Given as goal

abbrev pub invariant-loop-i : goal.invariant-loop-i
invariant-loop-i l = record {
  lawful : IsLawful nothing_kept (take l.i l.events);
  found : AreListsFound (take l.i l.events) (length l.events) l.found;
  followed : IsFollowed (take l.i l.events) (length l.events) l.nodes;
}
