use Rattle.rx_live.proofs.Common.{◌≡◌, has_no_texts, session_of, closed_texts}
use Rattle.rx_live.proofs.closed.names_none.Given as goal

abbrev pub invariant-places : goal.invariant-places
invariant-places l = record {
  none : l.is_none ≡ has_no_texts (closed_texts (session_of l.engine) l.asked l.place);
}
