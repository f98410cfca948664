use Rattle.rx_live.proofs.Common.{◌≡◌, ◌++◌, string_bytes, joined, has_no_texts, session_of, entries}
use Rattle.rx_live.proofs.dumping.push_entries.Given as goal

abbrev pub invariant-places : goal.invariant-places
invariant-places l = record {
  first : l.is_first ≡ has_no_texts (entries (session_of l.engine) l.place);
  written : string_bytes l.text ≡ string_bytes l.fn.text ++ joined (entries (session_of l.engine) l.place);
}
