use Rattle.rx_live.proofs.Common.{◌≡◌, ◌++◌, take, option_map, string_bytes, option_to_list, session_of}
use Rattle.rx_live.specs.Listed.{has_no_names, open_text}
use Rattle.rx_live.proofs.Listings.{names_at}
use Rattle.rx_live.proofs.closing.push_all.Given as goal

abbrev pub invariant-numbers : goal.invariant-numbers
invariant-numbers l = record {
  first : l.is_first
      ≡ has_no_names (option_to_list (option_map string_bytes l.engine.unnamed) ++ names_at (session_of l.engine) (take l.number-index l.number-items));
  written : string_bytes l.text ≡ string_bytes l.fn.text
      ++ open_text (option_to_list (option_map string_bytes l.engine.unnamed) ++ names_at (session_of l.engine) (take l.number-index l.number-items));
}
