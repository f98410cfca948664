use Rattle.rx_live.proofs.Common.{◌≡◌, ◌++◌, string_bytes, joined, has_no_texts, session_of, closed_texts}
use Rattle.rx_live.proofs.closed.push_names.Given as goal

abbrev pub invariant-places : goal.invariant-places
invariant-places l = record {
  first : l.is_first ≡ has_no_texts (closed_texts (session_of l.engine) l.asked l.place);
  written : string_bytes l.text ≡ string_bytes l.fn.text ++ joined (closed_texts (session_of l.engine) l.asked l.place);
}
